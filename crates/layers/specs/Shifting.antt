-- The laws of a shifted symmetry.
use Rattle.std.specs.Prelude.{◌≡◌, ℕ, ◌+◌, ◌-◌, ◌<◌, ◌≤◌, ℤ, pos, ◌+ℤ◌, ◌*ℤ◌, neg_ℤ, unsigned_abs, refl}
use Rattle.std.proofs.Common.{arith}
use Rattle.std.proofs.lemmas.Int.{ints}
use Rattle.plane.specs.declared.cell.Cell.{Cell}
use Rattle.plane.specs.declared.fold.Extent.{Extent}
use Rattle.plane.specs.Cells.{Within}
use Rattle.plane.specs.Operation.{carry, compose, identity, translation}
use Rattle.plane.specs.Meaning.{Meaning}
use Rattle.plane.specs.Laws.{Lawful}
use Rattle.plane.proofs.Algebra.{same-cell, same_operation}
use Rattle.layers.specs.declared.vector.Vector.{Vector}
use Rattle.layers.specs.Shift.{reach, short, reverse, moved, moved_by, shifted}
use Rattle.layers.specs.Conjugating.{conjugate_laws}
use Rattle.layers.specs.Judging.{roomy_is, settled_laws}

less : (z u : ℤ) (m n : ℕ) → unsigned_abs u ≤ m → m < n → unsigned_abs z ≤ n - m → unsigned_abs (z +ℤ neg_ℤ u) ≤ n
less z u m n h k l = omega (arith, ints)

more : (z u : ℤ) (m n : ℕ) → unsigned_abs u ≤ m → unsigned_abs z ≤ n → unsigned_abs (z +ℤ u) ≤ n + m
more z u m n h k = omega (arith, ints)

-- a cell in the shifted span comes from one in the span below
pub into : (w : Vector) (n : ℕ) (p : Cell) → reach w < n → Within (n - reach w) p → Within n (moved (reverse w) p)
into w n p h i = (less p.x w.u (reach w) n (omega arith) h i.0, less p.y w.v (reach w) n (omega arith) h i.1)

-- a home within the hem goes to one within the shifted hem
out : (w : Vector) (n : ℕ) (p : Cell) → Within n p → Within (n + reach w) (moved w p)
out w n p i = (more p.x w.u (reach w) n (omega arith) i.0, more p.y w.v (reach w) n (omega arith) i.1)

x_goes : (x y u : ℤ) → x +ℤ u ≡ pos 1 *ℤ x +ℤ pos 0 *ℤ y +ℤ u
x_goes x y u = omega (arith, ints)

y_goes : (x y v : ℤ) → y +ℤ v ≡ pos 0 *ℤ x +ℤ pos 1 *ℤ y +ℤ v
y_goes x y v = omega (arith, ints)

goes : (w : Vector) (p : Cell) → moved w p ≡ carry (translation w.u w.v) p
goes w p = same-cell (x_goes p.x p.y w.u) (y_goes p.x p.y w.v)

x_ends : (x y u : ℤ) → x +ℤ u ≡ pos 0 → pos 1 *ℤ x +ℤ pos 0 *ℤ y +ℤ u ≡ pos 0
x_ends x y u e = omega (arith, ints)

y_ends : (x y v : ℤ) → y +ℤ v ≡ pos 0 → pos 0 *ℤ x +ℤ pos 1 *ℤ y +ℤ v ≡ pos 0
y_ends x y v e = omega (arith, ints)

left_ends : (u : ℤ) → neg_ℤ u +ℤ u ≡ pos 0
left_ends u = omega (arith, ints)

right_ends : (u : ℤ) → u +ℤ neg_ℤ u ≡ pos 0
right_ends u = omega (arith, ints)

there : (u v : ℤ) → compose (translation u v) (translation (neg_ℤ u) (neg_ℤ v)) ≡ identity
there u v = same_operation refl refl refl refl (x_ends (neg_ℤ u) (neg_ℤ v) u (left_ends u)) (y_ends (neg_ℤ u) (neg_ℤ v) v (left_ends v)) refl

back : (u v : ℤ) → compose (translation (neg_ℤ u) (neg_ℤ v)) (translation u v) ≡ identity
back u v = same_operation refl refl refl refl (x_ends u v (neg_ℤ u) (right_ends u)) (y_ends u v (neg_ℤ v) (right_ends v)) refl

move_laws : (m : Meaning) → Lawful m → (w : Vector) → reach w < m.span → m.hem + reach w ≤ 1_000_000_000 → Lawful (moved_by w m)
move_laws m laws w few hems =
    conjugate_laws m laws
    (translation w.u w.v) (translation (neg_ℤ w.u) (neg_ℤ w.v)) (there w.u w.v) (back w.u w.v) refl refl
    (moved w) (moved (reverse w)) (goes w) (goes (reverse w))
    (m.span - reach w) (m.hem + reach w) (omega arith) (omega (arith, laws.span_high)) (omega (arith, laws.hem_low)) hems
    (λ p i. into w m.span p few i) (λ p i. out w m.hem p i)

-- a shift keeps the laws
pub shift_laws : (m : Meaning) → Lawful m → (w : Vector) → Lawful (shifted w m)
shift_laws m laws w =
    let own : Extent = record { span = m.span - reach w; hem = m.hem + reach w } in
    settled_laws (short w) own (moved_by w m) m laws (λ _ t. let r = roomy_is own t in move_laws m laws w (omega (arith, r.0)) r.1)
