-- A solver for polynomial identities over ℤ, by reflection.
--     E            an expression over variables, which are places in a list ρ of integers. `den ρ e` is its value
--     norm e       its polynomial: a sum of terms, each a coefficient and a sorted list of variables, the terms sorted, no two alike
--     ring ρ a b tt       : den ρ a ≡ den ρ b, where a and b are one polynomial
--     ring_by ρ hs a b tt : the same from equations. hs is a list of `hyp q l r h` with h : den ρ l ≡ den ρ r, and a - b is the sum of q * (l - r)
-- Assumes nothing.
use Rattle.std.proofs.Common.{◌≡◌, ℕ, zero, suc, List, [], ◌∷◌, ℤ, pos, negsuc, ◌+ℤ◌, ◌-ℤ◌, ◌*ℤ◌, neg_ℤ, sym, refl, ap, ◌∙◌, ap₂, arith}
use Prim.Native.Nat.{compare, Ordering}
use native.Mathlib.Omega.{compare-eq}
use lib.IntN.{*ℤ_comm, zero-*ℤ, +ℤ_idr, +ℤ_idl, +ℤ_assoc, +ℤ_invr}
use borrow.Author.Differences.{ints}
use Rattle.ints.proofs.Laws.{add-*ℤ, *ℤ-add, *ℤ-assoc, neg-*ℤ, one-*ℤ, *ℤ-left_comm, +ℤ-left_comm}

infixl 6 ◌⊕◌ ◌⊖◌
infixl 7 ◌⊗◌
pub data E : Type 0 where
  var : ℕ → E
  lit : ℤ → E
  ◌⊕◌ : E → E → E
  ◌⊖◌ : E → E → E
  ◌⊗◌ : E → E → E
  neg : E → E

abbrev pub nth : List ℤ → ℕ → ℤ
nth [] i = pos 0
nth (x ∷ ρ) zero = x
nth (x ∷ ρ) (suc i) = nth ρ i

abbrev pub den : List ℤ → E → ℤ
den ρ (var i) = nth ρ i
den ρ (lit z) = z
den ρ (a ⊕ b) = den ρ a +ℤ den ρ b
den ρ (a ⊖ b) = den ρ a -ℤ den ρ b
den ρ (a ⊗ b) = den ρ a *ℤ den ρ b
den ρ (neg a) = neg_ℤ (den ρ a)

-- ---- a product of variables, sorted
abbrev ev_m : List ℤ → List ℕ → ℤ
ev_m ρ [] = pos 1
ev_m ρ (i ∷ m) = nth ρ i *ℤ ev_m ρ m

abbrev before : Ordering → ℕ → ℕ → List ℕ → List ℕ → List ℕ
before Ordering.lt i j m r = i ∷ j ∷ m
before Ordering.eq i j m r = i ∷ j ∷ m
before Ordering.gt i j m r = j ∷ r

abbrev ins_m : ℕ → List ℕ → List ℕ
ins_m i [] = i ∷ []
ins_m i (j ∷ m) = let r = ins_m i m in before (compare i j) i j m r

abbrev mul_m : List ℕ → List ℕ → List ℕ
mul_m [] n = n
mul_m (i ∷ m) n = ins_m i (mul_m m n)

abbrev next : Ordering → Ordering → Ordering
next Ordering.lt r = Ordering.lt
next Ordering.eq r = r
next Ordering.gt r = Ordering.gt

abbrev cmp_m : List ℕ → List ℕ → Ordering
cmp_m [] [] = Ordering.eq
cmp_m [] (j ∷ n) = Ordering.lt
cmp_m (i ∷ m) [] = Ordering.gt
cmp_m (i ∷ m) (j ∷ n) = let r = cmp_m m n in next (compare i j) r

-- ---- a sum of terms, sorted
pub data P : Type 0 where
  nil : P
  cons : ℤ → List ℕ → P → P

abbrev ev_p : List ℤ → P → ℤ
ev_p ρ nil = pos 0
ev_p ρ (cons c m p) = c *ℤ ev_m ρ m +ℤ ev_p ρ p

abbrev place : Ordering → ℤ → List ℕ → ℤ → List ℕ → P → P → P
place Ordering.lt c m d n p r = cons c m (cons d n p)
place Ordering.eq c m d n p r = cons (c +ℤ d) n p
place Ordering.gt c m d n p r = cons d n r

abbrev add_t : ℤ → List ℕ → P → P
add_t c m nil = cons c m nil
add_t c m (cons d n p) = let r = add_t c m p in place (cmp_m m n) c m d n p r

abbrev add_p : P → P → P
add_p nil q = q
add_p (cons c m p) q = add_t c m (add_p p q)

abbrev neg_p : P → P
neg_p nil = nil
neg_p (cons c m p) = cons (neg_ℤ c) m (neg_p p)

-- c * m * q + acc
abbrev mul_t : ℤ → List ℕ → P → P → P
mul_t c m nil acc = acc
mul_t c m (cons d n q) acc = add_t (c *ℤ d) (mul_m m n) (mul_t c m q acc)

abbrev mul_p : P → P → P
mul_p nil q = nil
mul_p (cons c m p) q = mul_t c m q (mul_p p q)

abbrev pub norm : E → P
norm (var i) = cons (pos 1) (i ∷ []) nil
norm (lit z) = cons z [] nil
norm (a ⊕ b) = add_p (norm a) (norm b)
norm (a ⊖ b) = add_p (norm a) (neg_p (norm b))
norm (a ⊗ b) = mul_p (norm a) (norm b)
norm (neg a) = neg_p (norm a)

-- every coefficient is 0. On an expression that is written out it computes to `Unit` or to `⊥`, so its proof is `tt`
abbrev pub Zero : P → Type 0
Zero nil = Unit {0}
Zero (cons (pos zero) m p) = Zero p
Zero (cons (pos (suc n)) m p) = ⊥
Zero (cons (negsuc n) m p) = ⊥

-- ---- it is right
ins_m_is : (ρ : List ℤ) (i : ℕ) (m : List ℕ) → ev_m ρ (ins_m i m) ≡ nth ρ i *ℤ ev_m ρ m
ins_m_is ρ i [] = refl
ins_m_is ρ i (j ∷ m) = go (compare i j) (ins_m_is ρ i m)
  where
    go : (o : Ordering) → ev_m ρ (ins_m i m) ≡ nth ρ i *ℤ ev_m ρ m → ev_m ρ (before o i j m (ins_m i m)) ≡ nth ρ i *ℤ (nth ρ j *ℤ ev_m ρ m)
    go Ordering.lt e = refl
    go Ordering.eq e = refl
    go Ordering.gt e = ap (λ x. nth ρ j *ℤ x) e ∙ *ℤ-left_comm (nth ρ j) (nth ρ i) (ev_m ρ m)

mul_m_is : (ρ : List ℤ) (m n : List ℕ) → ev_m ρ (mul_m m n) ≡ ev_m ρ m *ℤ ev_m ρ n
mul_m_is ρ [] n = sym (one-*ℤ (ev_m ρ n))
mul_m_is ρ (i ∷ m) n = ins_m_is ρ i (mul_m m n) ∙ ap (λ x. nth ρ i *ℤ x) (mul_m_is ρ m n) ∙ sym (*ℤ-assoc (nth ρ i) (ev_m ρ m) (ev_m ρ n))

cmp_m_eq : (m n : List ℕ) → cmp_m m n ≡ Ordering.eq → m ≡ n
cmp_m_eq [] [] e = refl
cmp_m_eq [] (j ∷ n) e = cc
cmp_m_eq (i ∷ m) [] e = cc
cmp_m_eq (i ∷ m) (j ∷ n) e = go (compare i j) refl (cmp_m_eq m n) e
  where
    go : (o : Ordering) → compare i j ≡ o → (cmp_m m n ≡ Ordering.eq → m ≡ n) → next o (cmp_m m n) ≡ Ordering.eq → i ∷ m ≡ j ∷ n
    go Ordering.lt c f e = cc
    go Ordering.eq c f e = ap₂ ◌∷◌ (compare-eq i j c) (f e)
    go Ordering.gt c f e = cc

add_t_is : (ρ : List ℤ) (c : ℤ) (m : List ℕ) (p : P) → ev_p ρ (add_t c m p) ≡ c *ℤ ev_m ρ m +ℤ ev_p ρ p
add_t_is ρ c m nil = refl
add_t_is ρ c m (cons d n p) = go (cmp_m m n) refl (add_t_is ρ c m p)
  where
    go : (o : Ordering) → cmp_m m n ≡ o → ev_p ρ (add_t c m p) ≡ c *ℤ ev_m ρ m +ℤ ev_p ρ p → ev_p ρ (place o c m d n p (add_t c m p)) ≡ c *ℤ ev_m ρ m +ℤ (d *ℤ ev_m ρ n +ℤ ev_p ρ p)
    go Ordering.lt s e = refl
    go Ordering.eq s e = ap (λ x. x +ℤ ev_p ρ p) (add-*ℤ c d (ev_m ρ n)) ∙ +ℤ_assoc (c *ℤ ev_m ρ n) (d *ℤ ev_m ρ n) (ev_p ρ p) ∙ ap (λ k. c *ℤ ev_m ρ k +ℤ (d *ℤ ev_m ρ n +ℤ ev_p ρ p)) (sym (cmp_m_eq m n s))
    go Ordering.gt s e = ap (λ x. d *ℤ ev_m ρ n +ℤ x) e ∙ +ℤ-left_comm (d *ℤ ev_m ρ n) (c *ℤ ev_m ρ m) (ev_p ρ p)

add_p_is : (ρ : List ℤ) (p q : P) → ev_p ρ (add_p p q) ≡ ev_p ρ p +ℤ ev_p ρ q
add_p_is ρ nil q = sym (+ℤ_idl (ev_p ρ q))
add_p_is ρ (cons c m p) q = add_t_is ρ c m (add_p p q) ∙ ap (λ x. c *ℤ ev_m ρ m +ℤ x) (add_p_is ρ p q) ∙ sym (+ℤ_assoc (c *ℤ ev_m ρ m) (ev_p ρ p) (ev_p ρ q))

neg_p_is : (ρ : List ℤ) (p : P) → ev_p ρ (neg_p p) ≡ neg_ℤ (ev_p ρ p)
neg_p_is ρ nil = refl
neg_p_is ρ (cons c m p) = ap₂ ◌+ℤ◌ (neg-*ℤ c (ev_m ρ m)) (neg_p_is ρ p) ∙ minus (c *ℤ ev_m ρ m) (ev_p ρ p)
  where
    minus : (x y : ℤ) → neg_ℤ x +ℤ neg_ℤ y ≡ neg_ℤ (x +ℤ y)
    minus x y = omega (arith, ints)

mul_t_is : (ρ : List ℤ) (c : ℤ) (m : List ℕ) (q acc : P) → ev_p ρ (mul_t c m q acc) ≡ c *ℤ ev_m ρ m *ℤ ev_p ρ q +ℤ ev_p ρ acc
mul_t_is ρ c m nil acc = zeroed (c *ℤ ev_m ρ m) (ev_p ρ acc)
  where
    zeroed : (x y : ℤ) → y ≡ x *ℤ pos 0 +ℤ y
    zeroed x y = omega (arith, ints)
mul_t_is ρ c m (cons d n q) acc =
    add_t_is ρ (c *ℤ d) (mul_m m n) (mul_t c m q acc)
    ∙ ap₂ (λ x y. c *ℤ d *ℤ x +ℤ y) (mul_m_is ρ m n) (mul_t_is ρ c m q acc)
    ∙ regroup c d (ev_m ρ m) (ev_m ρ n) (ev_p ρ q) (ev_p ρ acc)
  where
    four : (c d x y : ℤ) → c *ℤ d *ℤ (x *ℤ y) ≡ c *ℤ x *ℤ (d *ℤ y)
    four c d x y = *ℤ-assoc c d (x *ℤ y) ∙ ap (λ k. c *ℤ k) (*ℤ-left_comm d x y) ∙ sym (*ℤ-assoc c x (d *ℤ y))

    regroup : (c d x y q r : ℤ) → c *ℤ d *ℤ (x *ℤ y) +ℤ (c *ℤ x *ℤ q +ℤ r) ≡ c *ℤ x *ℤ (d *ℤ y +ℤ q) +ℤ r
    regroup c d x y q r =
        ap (λ k. k +ℤ (c *ℤ x *ℤ q +ℤ r)) (four c d x y)
        ∙ sym (+ℤ_assoc (c *ℤ x *ℤ (d *ℤ y)) (c *ℤ x *ℤ q) r)
        ∙ ap (λ k. k +ℤ r) (sym (*ℤ-add (c *ℤ x) (d *ℤ y) q))

mul_p_is : (ρ : List ℤ) (p q : P) → ev_p ρ (mul_p p q) ≡ ev_p ρ p *ℤ ev_p ρ q
mul_p_is ρ nil q = sym (zero-*ℤ (ev_p ρ q))
mul_p_is ρ (cons c m p) q = mul_t_is ρ c m q (mul_p p q) ∙ ap (λ x. c *ℤ ev_m ρ m *ℤ ev_p ρ q +ℤ x) (mul_p_is ρ p q) ∙ sym (add-*ℤ (c *ℤ ev_m ρ m) (ev_p ρ p) (ev_p ρ q))

norm_is : (ρ : List ℤ) (e : E) → ev_p ρ (norm e) ≡ den ρ e
norm_is ρ (var i) = one_var (nth ρ i)
  where
    one_var : (x : ℤ) → pos 1 *ℤ (x *ℤ pos 1) +ℤ pos 0 ≡ x
    one_var x = +ℤ_idr (pos 1 *ℤ (x *ℤ pos 1)) ∙ one-*ℤ (x *ℤ pos 1) ∙ *ℤ_comm x (pos 1) ∙ one-*ℤ x
norm_is ρ (lit z) = +ℤ_idr (z *ℤ pos 1) ∙ *ℤ_comm z (pos 1) ∙ one-*ℤ z
norm_is ρ (a ⊕ b) = add_p_is ρ (norm a) (norm b) ∙ ap₂ ◌+ℤ◌ (norm_is ρ a) (norm_is ρ b)
norm_is ρ (a ⊖ b) = add_p_is ρ (norm a) (neg_p (norm b)) ∙ ap₂ ◌+ℤ◌ (norm_is ρ a) (neg_p_is ρ (norm b) ∙ ap neg_ℤ (norm_is ρ b))
norm_is ρ (a ⊗ b) = mul_p_is ρ (norm a) (norm b) ∙ ap₂ ◌*ℤ◌ (norm_is ρ a) (norm_is ρ b)
norm_is ρ (neg a) = neg_p_is ρ (norm a) ∙ ap neg_ℤ (norm_is ρ a)

zero_is : (ρ : List ℤ) (p : P) → Zero p → ev_p ρ p ≡ pos 0
zero_is ρ nil z = refl
zero_is ρ (cons (pos zero) m p) z = ap₂ ◌+ℤ◌ (zero-*ℤ (ev_m ρ m)) (zero_is ρ p z)
zero_is ρ (cons (pos (suc n)) m p) z = absurd z
zero_is ρ (cons (negsuc n) m p) z = absurd z

-- ---- the solver
pub ring_zero : (ρ : List ℤ) (e : E) → Zero (norm e) → den ρ e ≡ pos 0
ring_zero ρ e z = sym (norm_is ρ e) ∙ zero_is ρ (norm e) z

same : (x y : ℤ) → x -ℤ y ≡ pos 0 → x ≡ y
same x y e = omega (arith, ints)

pub ring : (ρ : List ℤ) (a b : E) → Zero (norm (a ⊖ b)) → den ρ a ≡ den ρ b
ring ρ a b z = same (den ρ a) (den ρ b) (ring_zero ρ (a ⊖ b) z)

-- ---- from equations
pub data Hyp (ρ : List ℤ) : Type 0 where
  hyp : (q l r : E) → den ρ l ≡ den ρ r → Hyp ρ

abbrev pub comb : (ρ : List ℤ) → List (Hyp ρ) → E
comb ρ [] = lit (pos 0)
comb ρ (hyp q l r h ∷ hs) = q ⊗ (l ⊖ r) ⊕ comb ρ hs

comb_is : (ρ : List ℤ) (hs : List (Hyp ρ)) → den ρ (comb ρ hs) ≡ pos 0
comb_is ρ [] = refl
comb_is ρ (hyp q l r h ∷ hs) = ap₂ ◌+ℤ◌ (none (den ρ q) (den ρ l) (den ρ r) h) (comb_is ρ hs)
  where
    none : (q x y : ℤ) → x ≡ y → q *ℤ (x -ℤ y) ≡ pos 0
    none q x y e = ap (λ k. q *ℤ (k -ℤ y)) e ∙ ap (λ k. q *ℤ k) (+ℤ_invr y) ∙ *ℤ_comm q (pos 0) ∙ zero-*ℤ q

pub ring_by : (ρ : List ℤ) (hs : List (Hyp ρ)) (a b : E) → Zero (norm (a ⊖ b ⊖ comb ρ hs)) → den ρ a ≡ den ρ b
ring_by ρ hs a b z = last (den ρ a) (den ρ b) (den ρ (comb ρ hs)) (comb_is ρ hs) (ring_zero ρ (a ⊖ b ⊖ comb ρ hs) z)
  where
    last : (x y c : ℤ) → c ≡ pos 0 → x -ℤ y -ℤ c ≡ pos 0 → x ≡ y
    last x y c p q = omega (arith, ints)
