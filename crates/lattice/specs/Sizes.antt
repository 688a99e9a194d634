-- Sizes: what the tests of two vectors say, and what a step of Euclid's algorithm keeps.
use Rattle.std.specs.Prelude.{◌≡◌, ℕ, zero, suc, ◌+◌, ◌*◌, ◌/◌, ◌%◌, ◌<◌, ◌≤◌, true, false, ◌&&◌, [], ◌∷◌, ℤ, pos, negsuc, ◌+ℤ◌, ◌-ℤ◌, ◌*ℤ◌, neg_ℤ, ◌≢◌, nat_le, unsigned_abs, refl}
use Rattle.std.proofs.Common.{sym, ap, ap₂, ◌∙◌, subst, arith, mul-le-mul, mul-le-mul_right, mod-lt, leb-true}
use Rattle.std.proofs.Math.Nat.{mod-add-div'}
use Rattle.std.proofs.lemmas.Int.{ints}
use Rattle.std.proofs.lemmas.Bool.{and_parts, eqb-false}
use Rattle.ints.proofs.Laws.{abs-mul}
use Rattle.ints.proofs.Ring.{var, neg, ◌⊕◌, ◌⊖◌, ◌⊗◌, ring, ring_by, hyp}
use Rattle.lattice.specs.declared.vectors.Vectors.{Vectors}
use Rattle.lattice.specs.Lattice.{area, small, parallel}
use Rattle.lattice.specs.Reduction.{upright}
use Rattle.lattice.specs.Bounds.{Bounded}

pub record Small (v : Vectors) : Type 0 where
  pub ax : unsigned_abs v.ax ≤ 256
  pub ay : unsigned_abs v.ay ≤ 256
  pub bx : unsigned_abs v.bx ≤ 256
  pub by : unsigned_abs v.by ≤ 256

pub small_is : (v : Vectors) → small v ≡ true → Small v
small_is v e =
    let h = and_parts (nat_le (unsigned_abs v.ax) 256 && nat_le (unsigned_abs v.ay) 256) (nat_le (unsigned_abs v.bx) 256 && nat_le (unsigned_abs v.by) 256) e in
    let first = and_parts (nat_le (unsigned_abs v.ax) 256) (nat_le (unsigned_abs v.ay) 256) h.0 in
    let second = and_parts (nat_le (unsigned_abs v.bx) 256) (nat_le (unsigned_abs v.by) 256) h.1 in
    record {
      ax = leb-true (unsigned_abs v.ax) 256 first.0;
      ay = leb-true (unsigned_abs v.ay) 256 first.1;
      bx = leb-true (unsigned_abs v.bx) 256 second.0;
      by = leb-true (unsigned_abs v.by) 256 second.1;
    }

some : (n : ℕ) → (n ≢ 0) → 1 ≤ n
some zero h = absurd (h refl)
some (suc n) h = omega arith

pub area_some : (v : Vectors) → parallel v ≡ false → 1 ≤ unsigned_abs (area v)
area_some v e = some (unsigned_abs (area v)) (eqb-false (unsigned_abs (area v)) 0 e)

abs_difference : (p q : ℤ) → unsigned_abs (p -ℤ q) ≤ unsigned_abs p + unsigned_abs q
abs_difference p q = omega (arith, ints)

pub area_bound : (v : Vectors) → Small v → unsigned_abs (area v) ≤ 131_072
area_bound v s = omega (
  arith,
  abs_difference (v.ax *ℤ v.by) (v.ay *ℤ v.bx),
  abs-mul v.ax v.by,
  abs-mul v.ay v.bx,
  mul-le-mul s.ax s.by,
  mul-le-mul s.ay s.bx,
)

pub factor_at_most : (m n a : ℕ) → 1 ≤ n → m * n ≡ a → m ≤ a
factor_at_most m zero a h e = absurd (omega arith)
factor_at_most m (suc n) a h e = omega arith

-- ---- one step, from (x, m) and (z, n) to (z, n) and (x - q z, r), where m = r + q n
abs_neg : (z : ℤ) → unsigned_abs (neg_ℤ z) ≡ unsigned_abs z
abs_neg z = omega (arith, ints)

pub area_kept : (x z m n q r : ℤ) → m ≡ r +ℤ q *ℤ n → unsigned_abs (z *ℤ r -ℤ n *ℤ (x -ℤ q *ℤ z)) ≡ unsigned_abs (x *ℤ n -ℤ m *ℤ z)
area_kept x z m n q r e =
    let X = var 0 in let Z = var 1 in let M = var 2 in let N = var 3 in let Q = var 4 in let R = var 5 in
    let turned : z *ℤ r -ℤ n *ℤ (x -ℤ q *ℤ z) ≡ neg_ℤ (x *ℤ n -ℤ m *ℤ z) =
    ring_by (x ∷ z ∷ m ∷ n ∷ q ∷ r ∷ []) (hyp (neg Z) M (R ⊕ Q ⊗ N) e ∷ []) (Z ⊗ R ⊖ N ⊗ (X ⊖ Q ⊗ Z)) (neg (X ⊗ N ⊖ M ⊗ Z)) tt in
    ap unsigned_abs turned ∙ abs_neg (x *ℤ n -ℤ m *ℤ z)

shared : (a r w q n : ℕ) → a * r + (w + q * a) * n ≡ w * n + a * (r + q * n)
shared a r w q n =
    let A = var 0 in let R = var 1 in let W = var 2 in let Q = var 3 in let N = var 4 in
    ap unsigned_abs (ring (pos a ∷ pos r ∷ pos w ∷ pos q ∷ pos n ∷ []) (A ⊗ R ⊕ (W ⊕ Q ⊗ A) ⊗ N) (W ⊗ N ⊕ A ⊗ (R ⊕ Q ⊗ N)) tt)

pub under : (m n : ℕ) → m % suc n < suc n
under m n = let h : 0 < suc n = omega arith in mod-lt m h

module _ (x : ℤ) (m : ℕ) (z : ℤ) (n : ℕ) where
  abbrev q : ℕ
  q = m / suc n

  abbrev rest : ℤ
  rest = x -ℤ pos q *ℤ z

  rest_size : unsigned_abs rest ≤ unsigned_abs x + q * unsigned_abs z
  rest_size = omega (arith, abs_difference x (pos q *ℤ z), abs-mul (pos q) z)

  weight_kept : unsigned_abs z * (m % suc n) + unsigned_abs rest * suc n ≤ unsigned_abs x * suc n + unsigned_abs z * m
  weight_kept =
      let wider = mul-le-mul_right (suc n) rest_size in
      let regrouped = shared (unsigned_abs z) (m % suc n) (unsigned_abs x) q (suc n) in
      let whole = ap (λ k. unsigned_abs z * k) (mod-add-div' m (suc n)) in
      omega (arith, wider, regrouped, whole)

  one_of : (u : ℕ) → u ≤ u * suc n
  one_of u = omega arith

  pub bounded_step : Bounded x m z (suc n) → Bounded z (suc n) rest (m % suc n)
  bounded_step b = record {
    low = (b.low.1, omega (arith, under m n, b.low.1));
    near = (b.near.1, omega (arith, one_of (unsigned_abs rest), weight_kept, b.weight));
    weight = omega (arith, weight_kept, b.weight);
    apart = subst (λ (k : ℕ). 1 ≤ k) (sym (area_kept x z (pos m) (pos (suc n)) (pos q) (pos (m % suc n)) (ap pos (sym (mod-add-div' m (suc n)))))) b.apart;
  }

-- ---- vectors turned upright
pub record Turned (x y : ℤ) : Type 0 where
  pub sign : ℤ
  pub unit : unsigned_abs sign ≡ 1
  pub column : upright x y ≡ sign *ℤ x
  pub row : pos (unsigned_abs y) ≡ sign *ℤ y
  pub back : y ≡ sign *ℤ pos (unsigned_abs y)

once : (x : ℤ) → x ≡ pos 1 *ℤ x
once x = omega (arith, ints)

minus : (x : ℤ) → neg_ℤ x ≡ negsuc 0 *ℤ x
minus x = omega (arith, ints)

pub turned : (x y : ℤ) → Turned x y
turned x (pos n) = record { sign = pos 1; unit = refl; column = once x; row = once (pos n); back = once (pos n) }
turned x (negsuc n) = record { sign = negsuc 0; unit = refl; column = minus x; row = minus (negsuc n); back = minus (pos (suc n)) }

upright-size : (x y : ℤ) → unsigned_abs (upright x y) ≡ unsigned_abs x
upright-size x (pos n) = refl
upright-size x (negsuc n) = abs_neg x

one_mul : (n : ℕ) → 1 * n ≡ n
one_mul n = omega arith

-- the determinant's size is that of the upright vectors
pub upright-area : (v : Vectors) → unsigned_abs (upright v.ax v.ay *ℤ pos (unsigned_abs v.by) -ℤ pos (unsigned_abs v.ay) *ℤ upright v.bx v.by) ≡ unsigned_abs (area v)
upright-area v =
    let a = turned v.ax v.ay in
    let b = turned v.bx v.by in
    let AX = var 0 in let AY = var 1 in let BX = var 2 in let BY = var 3 in let S = var 4 in let T = var 5 in let X = var 6 in let M = var 7 in let Z = var 8 in let N = var 9 in
    let e : upright v.ax v.ay *ℤ pos (unsigned_abs v.by) -ℤ pos (unsigned_abs v.ay) *ℤ upright v.bx v.by ≡ a.sign *ℤ b.sign *ℤ area v =
    ring_by (v.ax ∷ v.ay ∷ v.bx ∷ v.by ∷ a.sign ∷ b.sign ∷ upright v.ax v.ay ∷ pos (unsigned_abs v.ay) ∷ upright v.bx v.by ∷ pos (unsigned_abs v.by) ∷ [])
    (hyp N X (S ⊗ AX) a.column ∷ hyp (S ⊗ AX) N (T ⊗ BY) b.row ∷ hyp (neg Z) M (S ⊗ AY) a.row ∷ hyp (neg (S ⊗ AY)) Z (T ⊗ BX) b.column ∷ [])
    (X ⊗ N ⊖ M ⊗ Z) (S ⊗ T ⊗ (AX ⊗ BY ⊖ AY ⊗ BX)) tt in
    ap unsigned_abs e ∙ abs-mul (a.sign *ℤ b.sign) (area v) ∙ ap (λ k. k * unsigned_abs (area v)) (abs-mul a.sign b.sign ∙ ap₂ ◌*◌ a.unit b.unit) ∙ one_mul (unsigned_abs (area v))

pub bounded_start : (v : Vectors) → Small v → 1 ≤ unsigned_abs (area v) → Bounded (upright v.ax v.ay) (unsigned_abs v.ay) (upright v.bx v.by) (unsigned_abs v.by)
bounded_start v s some =
    let ea = upright-size v.ax v.ay in
    let eb = upright-size v.bx v.by in
    record {
      low = (s.ay, s.by);
      near = (omega (arith, ea, s.ax), omega (arith, eb, s.bx));
      weight = omega (
        arith,
        ap (λ k. k * unsigned_abs v.by) ea,
        ap (λ k. k * unsigned_abs v.ay) eb,
        mul-le-mul s.ax s.by,
        mul-le-mul s.bx s.ay,
      );
      apart = omega (arith, upright-area v, some);
    }
