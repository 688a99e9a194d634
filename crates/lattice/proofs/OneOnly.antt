-- Two vectors have one reduction.
use Rattle.std.proofs.Common.{◌≡◌, ℕ, zero, suc, ◌*◌, ◌≤◌, [], ◌∷◌, ℤ, pos, ◌+ℤ◌, ◌-ℤ◌, ◌*ℤ◌, nat_abs, sym, ap, ◌∙◌, subst, arith}
use borrow.Author.Differences.{ints}
use Rattle.ints.proofs.Laws.{abs-mul, *ℤ-cancel}
use Rattle.ints.proofs.Ring.{var, lit, ◌⊕◌, ◌⊖◌, ◌⊗◌, ring, ring_by, hyp}
use Rattle.ints.proofs.Floor.{floor_unique}
use Rattle.lattice.specs.declared.reduced.Reduced.{Reduced}
use Rattle.lattice.specs.Lattice.{Combination}
use Rattle.lattice.specs.Reduction.{Divides}
use Rattle.lattice.specs.Theorems.{OneReduction}
use Rattle.lattice.specs.Combining.{less}
use Rattle.lattice.specs.Reducing.{column_divides}

at_most : (m n a : ℕ) → 1 ≤ n → n ≡ a * m → m ≤ n
at_most m n zero h e = absurd (omega arith)
at_most m n (suc a) h e = omega arith

divisor_at_most : (m n : ℕ) → 1 ≤ n → Divides (pos m) (pos n) → m ≤ n
divisor_at_most m n h k = at_most m n (nat_abs k.0) h (ap nat_abs k.1 ∙ abs-mul k.0 (pos m))

one_factor : (m n d : ℕ) → 1 ≤ d → m * d ≡ n * d → m ≡ n
one_factor m n d h e = ap nat_abs (*ℤ-cancel (pos m) (pos n) (pos d) h (ap pos e))

apart : (b c m p : ℤ) → b -ℤ pos 1 *ℤ c ≡ m *ℤ p → b ≡ c +ℤ m *ℤ p
apart b c m p e = ring_by (b ∷ c ∷ m ∷ p ∷ []) (hyp (lit (pos 1)) (var 0 ⊖ lit (pos 1) ⊗ var 1) (var 2 ⊗ var 3) e ∷ []) (var 0) (var 1 ⊕ var 2 ⊗ var 3) tt

itself : (b p : ℤ) → b ≡ b +ℤ pos 0 *ℤ p
itself b p = ring (b ∷ p ∷ []) (var 0) (var 0 ⊕ lit (pos 0) ⊗ var 1) tt

none_left : (m n : ℕ) → m ≡ n → pos m -ℤ pos 1 *ℤ pos n ≡ pos 0
none_left m n e = omega (arith, ints)

same-reduced : {s t : Reduced} → s.p ≡ t.p → s.b ≡ t.b → s.d ≡ t.d → s ≡ t
same-reduced ep eb ed = λ i. record { p = ep i; b = eb i; d = ed i }

pub one_reduction : OneReduction
one_reduction v s t r q =
    -- each D divides the other
    let up : s.d ≤ t.d = divisor_at_most s.d t.d q.height (q.greatest (pos s.d) r.divides_a r.divides_b) in
    let down : t.d ≤ s.d = divisor_at_most t.d s.d r.height (r.greatest (pos t.d) q.divides_a q.divides_b) in
    let d : s.d ≡ t.d = omega arith in
    -- each P is the same size divided by it
    let p : s.p ≡ t.p = one_factor s.p t.p t.d q.height (ap (λ n. s.p * n) (sym d) ∙ r.size ∙ sym q.size) in
    -- two vectors in row D differ by a multiple of (P, 0)
    let c : Combination v (pos s.b -ℤ pos 1 *ℤ pos t.b) (pos 0) =
    subst (λ (z : ℤ). Combination v (pos s.b -ℤ pos 1 *ℤ pos t.b) z) (none_left s.d t.d d) (less v (pos 1) (pos s.b) (pos s.d) (pos t.b) (pos t.d) r.across q.across) in
    let m = column_divides v t q (pos s.b -ℤ pos 1 *ℤ pos t.b) c in
    let b : s.b ≡ t.b =
    (floor_unique (pos s.b) t.p s.b t.b (pos 0) m.0
    (record { below = omega (arith, r.below, p); is = itself (pos s.b) (pos t.p) })
    (record { below = q.below; is = apart (pos s.b) (pos t.b) m.0 (pos t.p) m.1 })).0 in
    same-reduced p b d
