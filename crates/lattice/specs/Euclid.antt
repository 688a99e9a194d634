-- Euclid's steps lead to the reduction.
use Rattle.std.specs.Prelude.{◌≡◌, ℕ, zero, suc, ◌*◌, ◌/◌, ◌%◌, ◌<◌, ◌≤◌, [], ◌∷◌, ℤ, pos, negsuc, ◌+ℤ◌, ◌-ℤ◌, ◌*ℤ◌, neg_ℤ, unsigned_abs, refl}
use Rattle.std.proofs.Common.{sym, ap, ◌∙◌, subst, arith}
use Rattle.std.proofs.Math.Nat.{mod-add-div'}
use Rattle.std.proofs.lemmas.Int.{ints}
use Rattle.ints.specs.Floor.{floor_mod, floor_div}
use Rattle.ints.proofs.Laws.{abs-mul}
use Rattle.ints.proofs.Ring.{var, lit, neg, ◌⊕◌, ◌⊖◌, ◌⊗◌, ring, ring_by, hyp}
use Rattle.ints.proofs.Floor.{floor_lt, floor_eq}
use Rattle.lattice.specs.declared.vectors.Vectors.{Vectors}
use Rattle.lattice.specs.Lattice.{Combination, area}
use Rattle.lattice.specs.Reduction.{Reduces, upright, finished, euclid, reduction}
use Rattle.lattice.specs.Bounds.{Bounded}
use Rattle.lattice.specs.Combining.{less, mixed}
use Rattle.lattice.specs.Sizes.{area_kept, under, bounded_step, turned, upright-area}

-- what holds of the vectors (x, m) and (z, n) after every step
pub record State (v : Vectors) (x : ℤ) (m : ℕ) (z : ℤ) (n : ℕ) : Type 0 where
  -- both are of the lattice
  pub first : Combination v x (pos m)
  pub second : Combination v z (pos n)
  -- the row entries are combinations of their rows
  pub rows_a : (i : ℤ) × (j : ℤ) × (v.ay ≡ i *ℤ pos m +ℤ j *ℤ pos n)
  pub rows_b : (i : ℤ) × (j : ℤ) × (v.by ≡ i *ℤ pos m +ℤ j *ℤ pos n)
  -- the determinant keeps its size
  pub size : unsigned_abs (x *ℤ pos n -ℤ pos m *ℤ z) ≡ unsigned_abs (area v)

-- ---- a step
row_rest : (m r q n : ℤ) → m ≡ r +ℤ q *ℤ n → m -ℤ q *ℤ n ≡ r
row_rest m r q n e = ring_by (m ∷ r ∷ q ∷ n ∷ []) (hyp (lit (pos 1)) (var 0) (var 1 ⊕ var 2 ⊗ var 3) e ∷ []) (var 0 ⊖ var 2 ⊗ var 3) (var 1) tt

row_next : (y i j m r q n : ℤ) → y ≡ i *ℤ m +ℤ j *ℤ n → m ≡ r +ℤ q *ℤ n → y ≡ (i *ℤ q +ℤ j) *ℤ n +ℤ i *ℤ r
row_next y i j m r q n e f =
    let Y = var 0 in let I = var 1 in let J = var 2 in let M = var 3 in let R = var 4 in let Q = var 5 in let N = var 6 in
    ring_by (y ∷ i ∷ j ∷ m ∷ r ∷ q ∷ n ∷ []) (hyp (lit (pos 1)) Y (I ⊗ M ⊕ J ⊗ N) e ∷ hyp I M (R ⊕ Q ⊗ N) f ∷ []) Y ((I ⊗ Q ⊕ J) ⊗ N ⊕ I ⊗ R) tt

step : (v : Vectors) (x : ℤ) (m : ℕ) (z : ℤ) (n : ℕ) → State v x m z (suc n) → State v z (suc n) (x -ℤ pos (m / suc n) *ℤ z) (m % suc n)
step v x m z n s =
    let q : ℤ = pos (m / suc n) in
    let r : ℤ = pos (m % suc n) in
    let e : pos m ≡ r +ℤ q *ℤ pos (suc n) = ap pos (sym (mod-add-div' m (suc n))) in
    let a = s.rows_a in
    let b = s.rows_b in
    record {
      first = s.second;
      second = subst (λ (y : ℤ). Combination v (x -ℤ q *ℤ z) y) (row_rest (pos m) r q (pos (suc n)) e) (less v q x (pos m) z (pos (suc n)) s.first s.second);
      rows_a = (a.0 *ℤ q +ℤ a.1, a.0, row_next v.ay a.0 a.1 (pos m) r q (pos (suc n)) a.2 e);
      rows_b = (b.0 *ℤ q +ℤ b.1, b.0, row_next v.by b.0 b.1 (pos m) r q (pos (suc n)) b.2 e);
      size = area_kept x z (pos m) (pos (suc n)) q r e ∙ s.size;
    }

-- ---- the end, where the second row is 0
pub record Signed (z : ℤ) : Type 0 where
  pub sign : ℤ
  pub is : pos (unsigned_abs z) ≡ sign *ℤ z

sign_of : (z : ℤ) → Signed z
sign_of (pos n) = record { sign = pos 1; is = omega (arith, ints) }
sign_of (negsuc n) = record { sign = negsuc 0; is = omega (arith, ints) }

flat : (x m z : ℤ) → x *ℤ pos 0 -ℤ m *ℤ z ≡ neg_ℤ (z *ℤ m)
flat x m z = ring (x ∷ m ∷ z ∷ []) (var 0 ⊗ lit (pos 0) ⊖ var 1 ⊗ var 2) (neg (var 2 ⊗ var 1)) tt

abs_neg : (z : ℤ) → unsigned_abs (neg_ℤ z) ≡ unsigned_abs z
abs_neg z = omega (arith, ints)

whole : (y i j m : ℤ) → y ≡ i *ℤ m +ℤ j *ℤ pos 0 → y ≡ i *ℤ m
whole y i j m e = ring_by (y ∷ i ∷ j ∷ m ∷ []) (hyp (lit (pos 1)) (var 0) (var 1 ⊗ var 3 ⊕ var 2 ⊗ lit (pos 0)) e ∷ []) (var 0) (var 1 ⊗ var 3) tt

common : (m i j a b k c d : ℤ) → m ≡ i *ℤ a +ℤ j *ℤ b → a ≡ c *ℤ k → b ≡ d *ℤ k → m ≡ (i *ℤ c +ℤ j *ℤ d) *ℤ k
common m i j a b k c d e f g =
    let M = var 0 in let I = var 1 in let J = var 2 in let A = var 3 in let B = var 4 in let K = var 5 in let C = var 6 in let D = var 7 in
    ring_by (m ∷ i ∷ j ∷ a ∷ b ∷ k ∷ c ∷ d ∷ []) (hyp (lit (pos 1)) M (I ⊗ A ⊕ J ⊗ B) e ∷ hyp I A (C ⊗ K) f ∷ hyp J B (D ⊗ K) g ∷ []) M ((I ⊗ C ⊕ J ⊗ D) ⊗ K) tt

just : (z s a : ℤ) → a ≡ s *ℤ z → a ≡ s *ℤ z +ℤ pos 0 *ℤ z
just z s a e = ring_by (z ∷ s ∷ a ∷ []) (hyp (lit (pos 1)) (var 2) (var 1 ⊗ var 0) e ∷ []) (var 2) (var 1 ⊗ var 0 ⊕ lit (pos 0) ⊗ var 0) tt

still : (s : ℤ) → pos 0 ≡ s *ℤ pos 0 +ℤ pos 0 *ℤ pos 0
still s = ring (s ∷ []) (lit (pos 0)) (var 0 ⊗ lit (pos 0) ⊕ lit (pos 0) ⊗ lit (pos 0)) tt

remainder : (x f l p : ℤ) → x ≡ f +ℤ l *ℤ p → f ≡ x -ℤ l *ℤ p
remainder x f l p e = ring_by (x ∷ f ∷ l ∷ p ∷ []) (hyp (lit (negsuc 0)) (var 0) (var 1 ⊕ var 2 ⊗ var 3) e ∷ []) (var 1) (var 0 ⊖ var 2 ⊗ var 3) tt

same_row : (m l : ℤ) → m ≡ m -ℤ l *ℤ pos 0
same_row m l = ring (m ∷ l ∷ []) (var 0) (var 0 ⊖ var 1 ⊗ lit (pos 0)) tt

factors : (p d : ℕ) → 1 ≤ p * d → (1 ≤ p) × (1 ≤ d)
factors zero d h = absurd (omega arith)
factors (suc p) zero h = absurd (omega arith)
factors (suc p) (suc d) h = (omega arith, omega arith)

end : (v : Vectors) (x : ℤ) (m : ℕ) (z : ℤ) → 1 ≤ unsigned_abs (area v) → State v x m z 0 → Reduces v (finished x m z)
end v x m z some s =
    let p : ℕ = unsigned_abs z in
    let size : p * m ≡ unsigned_abs (area v) = sym (abs-mul z (pos m)) ∙ sym (abs_neg (z *ℤ pos m)) ∙ sym (ap unsigned_abs (flat x (pos m) z)) ∙ s.size in
    let f = factors p m (omega (arith, size, some)) in
    let g = sign_of z in
    let a = mixed v g.sign (pos 0) z (pos 0) z (pos 0) s.second s.second in
    let along : Combination v (pos p) (pos 0) = (a.0, a.1, just z g.sign (pos p) g.is ∙ a.2, still g.sign ∙ a.3) in
    let l : ℤ = floor_div x p in
    let b = less v l x (pos m) (pos p) (pos 0) s.first along in
    record {
      height = f.1;
      divides_a = (s.rows_a.0, whole v.ay s.rows_a.0 s.rows_a.1 (pos m) s.rows_a.2);
      divides_b = (s.rows_b.0, whole v.by s.rows_b.0 s.rows_b.1 (pos m) s.rows_b.2);
      greatest = λ k c d. (s.first.0 *ℤ c.0 +ℤ s.first.1 *ℤ d.0, common (pos m) s.first.0 s.first.1 v.ay v.by k c.0 d.0 s.first.3 c.1 d.1);
      size = size;
      below = floor_lt x p f.0;
      along = along;
      across = (b.0, b.1, remainder x (pos (floor_mod x p)) l (pos p) (floor_eq x p f.0) ∙ b.2, same_row (pos m) l ∙ b.3);
    }

-- ---- all steps
reduces_from : (v : Vectors) → 1 ≤ unsigned_abs (area v) → (s : ℕ) (x : ℤ) (m : ℕ) (z : ℤ) (n : ℕ) → n ≤ s → State v x m z n → Reduces v (euclid s x m z n)
unfolding euclid
reduces_from v some zero x m z zero h t = end v x m z some t
reduces_from v some zero x m z (suc n) h t = absurd (omega arith)
reduces_from v some (suc s) x m z zero h t = end v x m z some t
reduces_from v some (suc s) x m z (suc n) h t =
    reduces_from v some s z (suc n) (x -ℤ pos (m / suc n) *ℤ z) (m % suc n) (omega (arith, under m n)) (step v x m z n t)

-- more steps than enough change nothing
enough : (s t : ℕ) (x : ℤ) (m : ℕ) (z : ℤ) (n : ℕ) → n ≤ s → n ≤ t → euclid s x m z n ≡ euclid t x m z n
unfolding euclid
enough zero zero x m z n h k = refl
enough zero (suc t) x m z zero h k = refl
enough zero (suc t) x m z (suc n) h k = absurd (omega arith)
enough (suc s) zero x m z zero h k = refl
enough (suc s) zero x m z (suc n) h k = absurd (omega arith)
enough (suc s) (suc t) x m z zero h k = refl
enough (suc s) (suc t) x m z (suc n) h k =
    let l : m % suc n ≤ n = omega (arith, under m n) in
    enough s t z (suc n) (x -ℤ pos (m / suc n) *ℤ z) (m % suc n) (omega arith) (omega arith)

at_end : (x : ℤ) (m : ℕ) (z : ℤ) → finished x m z ≡ euclid 0 x m z 0
unfolding euclid
at_end x m z = refl

one_more : (x : ℤ) (m : ℕ) (z : ℤ) (n : ℕ) → euclid (m % suc n) z (suc n) (x -ℤ pos (m / suc n) *ℤ z) (m % suc n) ≡ euclid (suc n) x m z (suc n)
unfolding euclid
one_more x m z n =
    let l : m % suc n ≤ n = omega (arith, under m n) in
    enough (m % suc n) n z (suc n) (x -ℤ pos (m / suc n) *ℤ z) (m % suc n) (omega arith) l

-- ---- the start
only_first : (s x u w : ℤ) → u ≡ s *ℤ x → u ≡ s *ℤ x +ℤ pos 0 *ℤ w
only_first s x u w e = ring_by (s ∷ x ∷ u ∷ w ∷ []) (hyp (lit (pos 1)) (var 2) (var 0 ⊗ var 1) e ∷ []) (var 2) (var 0 ⊗ var 1 ⊕ lit (pos 0) ⊗ var 3) tt

only_second : (s x u w : ℤ) → u ≡ s *ℤ x → u ≡ pos 0 *ℤ w +ℤ s *ℤ x
only_second s x u w e = ring_by (s ∷ x ∷ u ∷ w ∷ []) (hyp (lit (pos 1)) (var 2) (var 0 ⊗ var 1) e ∷ []) (var 2) (lit (pos 0) ⊗ var 3 ⊕ var 0 ⊗ var 1) tt

start : (v : Vectors) → State v (upright v.ax v.ay) (unsigned_abs v.ay) (upright v.bx v.by) (unsigned_abs v.by)
start v =
    let a = turned v.ax v.ay in
    let b = turned v.bx v.by in
    let m : ℤ = pos (unsigned_abs v.ay) in
    let n : ℤ = pos (unsigned_abs v.by) in
    record {
      first = (a.sign, pos 0, only_first a.sign v.ax (upright v.ax v.ay) v.bx a.column, only_first a.sign v.ay m v.by a.row);
      second = (pos 0, b.sign, only_second b.sign v.bx (upright v.bx v.by) v.ax b.column, only_second b.sign v.by n v.ay b.row);
      rows_a = (a.sign, pos 0, only_first a.sign m v.ay n a.back);
      rows_b = (pos 0, b.sign, only_second b.sign n v.by m b.back);
      size = upright-area v;
    }

-- Euclid's steps find the reduction of two vectors that are not parallel
pub reduces : (v : Vectors) → 1 ≤ unsigned_abs (area v) → Reduces v (reduction v)
unfolding reduction
reduces v some = reduces_from v some (unsigned_abs v.by) (upright v.ax v.ay) (unsigned_abs v.ay) (upright v.bx v.by) (unsigned_abs v.by) (omega arith) (start v)

-- ---- as the code asks them
pub no_more : (x : ℤ) (m : ℕ) (z : ℤ) (n : ℕ) → n ≡ 0 → finished x m z ≡ euclid n x m z n
no_more x m z n e = at_end x m z ∙ ap (λ k. euclid k x m z k) (sym e)

pub next_is : (x : ℤ) (m : ℕ) (z : ℤ) (n : ℕ) → 1 ≤ n → euclid (m % n) z n (x -ℤ pos (m / n) *ℤ z) (m % n) ≡ euclid n x m z n
next_is x m z zero h = absurd (omega arith)
next_is x m z (suc n) h = one_more x m z n

pub next_bounded : (x : ℤ) (m : ℕ) (z : ℤ) (n : ℕ) → 1 ≤ n → Bounded x m z n → Bounded z n (x -ℤ pos (m / n) *ℤ z) (m % n)
next_bounded x m z zero h b = absurd (omega arith)
next_bounded x m z (suc n) h b = bounded_step x m z n b

pub next_less : (m n : ℕ) → 1 ≤ n → m % n < n
next_less m zero h = absurd (omega arith)
next_less m (suc n) h = under m n
