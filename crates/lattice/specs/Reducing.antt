-- What follows from a reduction: the reduced vectors give the same lattice.
use Rattle.std.specs.Prelude.{◌≡◌, ℕ, ◌*◌, [], ◌∷◌, ℤ, pos, negsuc, ◌+ℤ◌, ◌-ℤ◌, ◌*ℤ◌, unsigned_abs}
use Rattle.std.proofs.Common.{ap, ◌∙◌, subst, arith}
use Rattle.std.proofs.lemmas.Int.{ints}
use Rattle.ints.proofs.Laws.{*ℤ-cancel}
use Rattle.ints.proofs.Ring.{var, lit, neg, ◌⊕◌, ◌⊖◌, ◌⊗◌, ring, ring_by, hyp}
use Rattle.lattice.specs.declared.vectors.Vectors.{Vectors}
use Rattle.lattice.specs.declared.reduced.Reduced.{Reduced}
use Rattle.lattice.specs.Lattice.{Combination, area}
use Rattle.lattice.specs.Reduction.{Divides, Reduces, basis}
use Rattle.lattice.specs.Combining.{less, mixed}

-- a number is its size, up to sign
pub signed : (z : ℤ) (n : ℕ) → n ≡ unsigned_abs z → (s : ℤ) × (z ≡ s *ℤ pos n)
signed (pos k) n e = (pos 1, omega (arith, ints))
signed (negsuc k) n e = (negsuc 0, omega (arith, ints))

-- a combination in row 0, times D: a multiple of the determinant
on_row : (ax ay bx by i j x i0 j0 d : ℤ) → x ≡ i *ℤ ax +ℤ j *ℤ bx → pos 0 ≡ i *ℤ ay +ℤ j *ℤ by → d ≡ i0 *ℤ ay +ℤ j0 *ℤ by
    → x *ℤ d ≡ (j0 *ℤ i -ℤ i0 *ℤ j) *ℤ (ax *ℤ by -ℤ ay *ℤ bx)
on_row ax ay bx by i j x i0 j0 d ex ey ed =
    let AX = var 0 in let AY = var 1 in let BX = var 2 in let BY = var 3 in let I = var 4 in let J = var 5 in let X = var 6 in let I0 = var 7 in let J0 = var 8 in let D = var 9 in
    ring_by (ax ∷ ay ∷ bx ∷ by ∷ i ∷ j ∷ x ∷ i0 ∷ j0 ∷ d ∷ [])
    (hyp D X (I ⊗ AX ⊕ J ⊗ BX) ex ∷ hyp (I ⊗ AX ⊕ J ⊗ BX) D (I0 ⊗ AY ⊕ J0 ⊗ BY) ed ∷ hyp (neg (I0 ⊗ AX ⊕ J0 ⊗ BX)) (lit (pos 0)) (I ⊗ AY ⊕ J ⊗ BY) ey ∷ [])
    (X ⊗ D) ((J0 ⊗ I ⊖ I0 ⊗ J) ⊗ (AX ⊗ BY ⊖ AY ⊗ BX)) tt

regrouped : (k s p d : ℤ) → k *ℤ (s *ℤ (p *ℤ d)) ≡ k *ℤ s *ℤ p *ℤ d
regrouped k s p d = ring (k ∷ s ∷ p ∷ d ∷ []) (var 0 ⊗ (var 1 ⊗ (var 2 ⊗ var 3))) (var 0 ⊗ var 1 ⊗ var 2 ⊗ var 3) tt

row_sum : (i j k l d ay by y : ℤ) → y ≡ i *ℤ ay +ℤ j *ℤ by → ay ≡ k *ℤ d → by ≡ l *ℤ d → y ≡ (i *ℤ k +ℤ j *ℤ l) *ℤ d
row_sum i j k l d ay by y ey ea eb =
    let I = var 0 in let J = var 1 in let K = var 2 in let L = var 3 in let D = var 4 in let AY = var 5 in let BY = var 6 in let Y = var 7 in
    ring_by (i ∷ j ∷ k ∷ l ∷ d ∷ ay ∷ by ∷ y ∷ [])
    (hyp (lit (pos 1)) Y (I ⊗ AY ⊕ J ⊗ BY) ey ∷ hyp I AY (K ⊗ D) ea ∷ hyp J BY (L ⊗ D) eb ∷ [])
    Y ((I ⊗ K ⊕ J ⊗ L) ⊗ D) tt

-- a vector from its rest
x_back : (x k b p m : ℤ) → x -ℤ k *ℤ b ≡ m *ℤ p → x ≡ m *ℤ p +ℤ k *ℤ b
x_back x k b p m e = ring_by (x ∷ k ∷ b ∷ p ∷ m ∷ []) (hyp (lit (pos 1)) (var 0 ⊖ var 1 ⊗ var 2) (var 4 ⊗ var 3) e ∷ []) (var 0) (var 4 ⊗ var 3 ⊕ var 1 ⊗ var 2) tt

y_back : (y k d m : ℤ) → y ≡ k *ℤ d → y ≡ m *ℤ pos 0 +ℤ k *ℤ d
y_back y k d m e = ring_by (y ∷ k ∷ d ∷ m ∷ []) (hyp (lit (pos 1)) (var 0) (var 1 ⊗ var 2) e ∷ []) (var 0) (var 3 ⊗ lit (pos 0) ⊕ var 1 ⊗ var 2) tt

gone : (y k d : ℤ) → y ≡ k *ℤ d → y -ℤ k *ℤ d ≡ pos 0
gone y k d e = ring_by (y ∷ k ∷ d ∷ []) (hyp (lit (pos 1)) (var 0) (var 1 ⊗ var 2) e ∷ []) (var 0 ⊖ var 1 ⊗ var 2) (lit (pos 0)) tt

module _ (v : Vectors) (t : Reduced) (r : Reduces v t) where
  -- every row of the lattice is a multiple of D
  pub row_divides : (x y : ℤ) → Combination v x y → Divides (pos t.d) y
  row_divides x y c =
      (c.0 *ℤ r.divides_a.0 +ℤ c.1 *ℤ r.divides_b.0, row_sum c.0 c.1 r.divides_a.0 r.divides_b.0 (pos t.d) v.ay v.by y c.3 r.divides_a.1 r.divides_b.1)

  -- every column of the lattice in row 0 is a multiple of P
  pub column_divides : (x : ℤ) → Combination v x (pos 0) → Divides (pos t.p) x
  column_divides x c =
      let a = r.across in
      let k : ℤ = a.1 *ℤ c.0 -ℤ a.0 *ℤ c.1 in
      let s = signed (area v) (t.p * t.d) r.size in
      let e : x *ℤ pos t.d ≡ k *ℤ s.0 *ℤ pos t.p *ℤ pos t.d =
      on_row v.ax v.ay v.bx v.by c.0 c.1 x a.0 a.1 (pos t.d) c.2 c.3 a.3
      ∙ ap (λ z. k *ℤ z) s.1 ∙ regrouped k s.0 (pos t.p) (pos t.d) in
      (k *ℤ s.0, *ℤ-cancel x (k *ℤ s.0 *ℤ pos t.p) (pos t.d) r.height e)

  -- the lattice as given is that of the reduced vectors
  pub into_basis : (x y : ℤ) → Combination v x y → Combination (basis t) x y
  into_basis x y c =
      let k = row_divides x y c in
      let rest : Combination v (x -ℤ k.0 *ℤ pos t.b) (pos 0) = subst (λ (z : ℤ). Combination v (x -ℤ k.0 *ℤ pos t.b) z) (gone y k.0 (pos t.d) k.1) (less v k.0 x y (pos t.b) (pos t.d) c r.across) in
      let m = column_divides (x -ℤ k.0 *ℤ pos t.b) rest in
      (m.0, k.0, x_back x k.0 (pos t.b) (pos t.p) m.0 m.1, y_back y k.0 (pos t.d) m.0 k.1)

  pub from_basis : (x y : ℤ) → Combination (basis t) x y → Combination v x y
  from_basis x y c =
      let k = mixed v c.0 c.1 (pos t.p) (pos 0) (pos t.b) (pos t.d) r.along r.across in
      (k.0, k.1, c.2 ∙ k.2, c.3 ∙ k.3)
