-- The laws of a recast symmetry.
use Rattle.std.specs.Prelude.{◌≡◌, ℕ, ◌+◌, ◌*◌, ◌/◌, ◌≤◌, Bool, true, ◌&&◌, [], ◌∷◌, ℤ, pos, negsuc, ◌+ℤ◌, ◌-ℤ◌, ◌*ℤ◌, neg_ℤ, nat_le, unsigned_abs, refl}
use Rattle.std.proofs.Common.{ap, ◌∙◌, arith, mul-le-mul_left, mul-le-mul_right, div-mul-le_self, div-le_self, le-leb}
use Rattle.std.proofs.lemmas.Int.{ints}
use Rattle.ints.proofs.Laws.{abs-mul}
use Rattle.ints.proofs.Ring.{var, lit, neg, ◌⊕◌, ◌⊖◌, ◌⊗◌, ring}
use Rattle.plane.specs.declared.cell.Cell.{Cell}
use Rattle.plane.specs.declared.fold.Extent.{Extent}
use Rattle.plane.specs.Cells.{Within}
use Rattle.plane.specs.Operation.{carry, compose, identity}
use Rattle.plane.specs.Meaning.{Meaning}
use Rattle.plane.specs.Laws.{Lawful}
use Rattle.plane.proofs.Algebra.{same-cell, same_operation}
use Rattle.layers.specs.declared.matrix.Matrix.{Matrix}
use Rattle.layers.specs.Recast.{volume, small, fair, inverse, linear, applied, recast_by, recasted}
use Rattle.layers.specs.Fairness.{Small, Fair, fair_is}
use Rattle.layers.specs.Judging.{roomy_is, settled_laws}
use Rattle.layers.specs.Conjugating.{conjugate_laws}

square : (z : ℤ) → unsigned_abs z ≡ 1 → z *ℤ z ≡ pos 1
square (pos n) e = ap (λ k. pos (k * k)) e
square (negsuc n) e = ap (λ k. pos (k * k)) e

no_more : (z : ℤ) → z ≡ z +ℤ pos 0
no_more z = omega (arith, ints)

goes : (w : Matrix) (p : Cell) → applied w p ≡ carry (linear w) p
goes w p = same-cell (no_more (w.a *ℤ p.x +ℤ w.b *ℤ p.y)) (no_more (w.c *ℤ p.x +ℤ w.d *ℤ p.y))

none : (x y : ℤ) → x *ℤ pos 0 +ℤ y *ℤ pos 0 +ℤ pos 0 ≡ pos 0
none x y = omega (arith, ints)

-- rows of a matrix with columns of its inverse: u (D v) ± w (D z), by D (u v ± w z)
t1 : (D a b c d : ℤ) → a *ℤ (D *ℤ d) +ℤ b *ℤ neg_ℤ (D *ℤ c) ≡ D *ℤ (a *ℤ d -ℤ b *ℤ c)
t1 D a b c d = ring (D ∷ a ∷ b ∷ c ∷ d ∷ []) (var 1 ⊗ (var 0 ⊗ var 4) ⊕ var 2 ⊗ neg (var 0 ⊗ var 3)) (var 0 ⊗ (var 1 ⊗ var 4 ⊖ var 2 ⊗ var 3)) tt

t2 : (D a b : ℤ) → a *ℤ neg_ℤ (D *ℤ b) +ℤ b *ℤ (D *ℤ a) ≡ pos 0
t2 D a b = ring (D ∷ a ∷ b ∷ []) (var 1 ⊗ neg (var 0 ⊗ var 2) ⊕ var 2 ⊗ (var 0 ⊗ var 1)) (lit (pos 0)) tt

t3 : (D c d : ℤ) → c *ℤ (D *ℤ d) +ℤ d *ℤ neg_ℤ (D *ℤ c) ≡ pos 0
t3 D c d = ring (D ∷ c ∷ d ∷ []) (var 1 ⊗ (var 0 ⊗ var 2) ⊕ var 2 ⊗ neg (var 0 ⊗ var 1)) (lit (pos 0)) tt

t4 : (D a b c d : ℤ) → c *ℤ neg_ℤ (D *ℤ b) +ℤ d *ℤ (D *ℤ a) ≡ D *ℤ (a *ℤ d -ℤ b *ℤ c)
t4 D a b c d = ring (D ∷ a ∷ b ∷ c ∷ d ∷ []) (var 3 ⊗ neg (var 0 ⊗ var 2) ⊕ var 4 ⊗ (var 0 ⊗ var 1)) (var 0 ⊗ (var 1 ⊗ var 4 ⊖ var 2 ⊗ var 3)) tt

b1 : (D a b c d : ℤ) → D *ℤ d *ℤ a +ℤ neg_ℤ (D *ℤ b) *ℤ c ≡ D *ℤ (a *ℤ d -ℤ b *ℤ c)
b1 D a b c d = ring (D ∷ a ∷ b ∷ c ∷ d ∷ []) (var 0 ⊗ var 4 ⊗ var 1 ⊕ neg (var 0 ⊗ var 2) ⊗ var 3) (var 0 ⊗ (var 1 ⊗ var 4 ⊖ var 2 ⊗ var 3)) tt

b2 : (D b d : ℤ) → D *ℤ d *ℤ b +ℤ neg_ℤ (D *ℤ b) *ℤ d ≡ pos 0
b2 D b d = ring (D ∷ b ∷ d ∷ []) (var 0 ⊗ var 2 ⊗ var 1 ⊕ neg (var 0 ⊗ var 1) ⊗ var 2) (lit (pos 0)) tt

b3 : (D a c : ℤ) → neg_ℤ (D *ℤ c) *ℤ a +ℤ D *ℤ a *ℤ c ≡ pos 0
b3 D a c = ring (D ∷ a ∷ c ∷ []) (neg (var 0 ⊗ var 2) ⊗ var 1 ⊕ var 0 ⊗ var 1 ⊗ var 2) (lit (pos 0)) tt

b4 : (D a b c d : ℤ) → neg_ℤ (D *ℤ c) *ℤ b +ℤ D *ℤ a *ℤ d ≡ D *ℤ (a *ℤ d -ℤ b *ℤ c)
b4 D a b c d = ring (D ∷ a ∷ b ∷ c ∷ d ∷ []) (neg (var 0 ⊗ var 3) ⊗ var 2 ⊕ var 0 ⊗ var 1 ⊗ var 4) (var 0 ⊗ (var 1 ⊗ var 4 ⊖ var 2 ⊗ var 3)) tt

there : (w : Matrix) → unsigned_abs (volume w) ≡ 1 → compose (linear w) (linear (inverse w)) ≡ identity
there w unit =
    let D : ℤ = volume w in
    let s : D *ℤ D ≡ pos 1 = square D unit in
    same_operation
    (t1 D w.a w.b w.c w.d ∙ s) (t2 D w.a w.b) (t3 D w.c w.d) (t4 D w.a w.b w.c w.d ∙ s)
    (none w.a w.b) (none w.c w.d) refl

back : (w : Matrix) → unsigned_abs (volume w) ≡ 1 → compose (linear (inverse w)) (linear w) ≡ identity
back w unit =
    let D : ℤ = volume w in
    let s : D *ℤ D ≡ pos 1 = square D unit in
    same_operation
    (b1 D w.a w.b w.c w.d ∙ s) (b2 D w.b w.d) (b3 D w.a w.c) (b4 D w.a w.b w.c w.d ∙ s)
    (none (D *ℤ w.d) (neg_ℤ (D *ℤ w.b))) (none (neg_ℤ (D *ℤ w.c)) (D *ℤ w.a)) refl

-- ---- sizes
abs_sum : (p q : ℤ) → unsigned_abs (p +ℤ q) ≤ unsigned_abs p + unsigned_abs q
abs_sum p q = omega (arith, ints)

-- two products whose factors have the sum k at most
two : (a b x y k n : ℕ) → a + b ≤ k → x ≤ n → y ≤ n → a * x + b * y ≤ n * k
two a b x y k n h i j = omega (arith, mul-le-mul_left a i, mul-le-mul_left b j, mul-le-mul_right n h)

sum_within : (a b x y : ℤ) (k n : ℕ) → unsigned_abs a + unsigned_abs b ≤ k → unsigned_abs x ≤ n → unsigned_abs y ≤ n → unsigned_abs (a *ℤ x +ℤ b *ℤ y) ≤ n * k
sum_within a b x y k n h i j = omega (arith, abs_sum (a *ℤ x) (b *ℤ y), abs-mul a x, abs-mul b y, two (unsigned_abs a) (unsigned_abs b) (unsigned_abs x) (unsigned_abs y) k n h i j)

-- the inverse has the entries of the matrix, up to sign
unit_times : (v z : ℤ) → unsigned_abs v ≡ 1 → unsigned_abs (v *ℤ z) ≡ unsigned_abs z
unit_times v z e = abs-mul v z ∙ ap (λ k. k * unsigned_abs z) e ∙ one_mul (unsigned_abs z)
  where
    one_mul : (n : ℕ) → 1 * n ≡ n
    one_mul n = omega arith

abs_neg : (z : ℤ) → unsigned_abs (neg_ℤ z) ≡ unsigned_abs z
abs_neg z = omega (arith, ints)

inverse-small : (w : Matrix) → Fair w → Small (inverse w)
inverse-small w f =
    let v : ℤ = volume w in
    record {
      a = omega (arith, unit_times v w.d f.unit, f.small.d);
      b = omega (arith, abs_neg (v *ℤ w.b), unit_times v w.b f.unit, f.small.b);
      c = omega (arith, abs_neg (v *ℤ w.c), unit_times v w.c f.unit, f.small.c);
      d = omega (arith, unit_times v w.a f.unit, f.small.a);
    }

all_four : (p q r s : Bool) → p ≡ true → q ≡ true → r ≡ true → s ≡ true → (p && q) && (r && s) ≡ true
all_four p q r s ep eq er es = cc

pub inverse_test : (w : Matrix) → fair w ≡ true → small (inverse w) ≡ true
inverse_test w t =
    let s = inverse-small w (fair_is w t) in
    let i : Matrix = inverse w in
    all_four (nat_le (unsigned_abs i.a) 8) (nat_le (unsigned_abs i.b) 8) (nat_le (unsigned_abs i.c) 8) (nat_le (unsigned_abs i.d) 8)
    (le-leb (unsigned_abs i.a) 8 s.a) (le-leb (unsigned_abs i.b) 8 s.b) (le-leb (unsigned_abs i.c) 8 s.c) (le-leb (unsigned_abs i.d) 8 s.d)

-- a small matrix takes a cell at most 16 times as far from the origin
out : (w : Matrix) → Small w → (n : ℕ) (p : Cell) → Within n p → Within (n * 16) (applied w p)
out w s n p i = (
  sum_within w.a w.b p.x p.y 16 n (omega (arith, s.a, s.b)) i.0 i.1,
  sum_within w.c w.d p.x p.y 16 n (omega (arith, s.c, s.d)) i.0 i.1,
)

-- a cell in the recast span comes from one in the span below
pub into : (w : Matrix) → fair w ≡ true → (n : ℕ) (p : Cell) → Within (n / 16) p → Within n (applied (inverse w) p)
into w t n p i =
    let h = out (inverse w) (inverse-small w (fair_is w t)) (n / 16) p i in
    (omega (arith, h.0, div-mul-le_self n 16), omega (arith, h.1, div-mul-le_self n 16))

see_laws : (m : Meaning) → Lawful m → (w : Matrix) → fair w ≡ true → 1 ≤ m.span / 16 → m.hem * 16 ≤ 1_000_000_000 → Lawful (recast_by w m)
see_laws m laws w t few hems =
    let f = fair_is w t in
    conjugate_laws m laws
    (linear w) (linear (inverse w)) (there w f.unit) (back w f.unit) refl refl
    (applied w) (applied (inverse w)) (goes w) (goes (inverse w))
    (m.span / 16) (m.hem * 16) few (omega (arith, div-le_self m.span 16, laws.span_high)) (omega (arith, laws.hem_low)) hems
    (λ p i. into w t m.span p i) (λ p i. out w f.small m.hem p i)

-- a recast keeps the laws
pub recast_laws : (m : Meaning) → Lawful m → (w : Matrix) → Lawful (recasted w m)
recast_laws m laws w =
    let own : Extent = record { span = m.span / 16; hem = m.hem * 16 } in
    settled_laws (fair w) own (recast_by w m) m laws (λ t r. let h = roomy_is own r in see_laws m laws w t h.0 h.1)
