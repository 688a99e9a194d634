-- The ring laws of ℤ that lib.IntN lacks: the product is associative and distributes over the sum, the difference and the negation.
-- `omega` reads an integer z as `up z - down z`, and a product of two integers as two sums of products (`product_is`). It multiplies no fact by a factor, so each proof hands it the facts that it needs, multiplied. Assumes nothing.
use Rattle.std.proofs.Common.{◌≡◌, ℕ, zero, suc, ◌+◌, ◌*◌, ◌<◌, ◌≤◌, ◌⊎◌, ℤ, pos, negsuc, ◌+ℤ◌, ◌-ℤ◌, ◌*ℤ◌, neg_ℤ, nat_abs, sym, refl, ap, ◌∙◌, inl, inr, arith}
use lib.IntN.{neg_ℤ-neg_ℤ, neg_ℤ-+ℤ, *ℤ_comm, +ℤ_comm, +ℤ_assoc}
use borrow.Author.Differences.{up, down, ints, sum_is_lem, product_is, neg_is, abs_is, same_in, same_out}

pub add-*ℤ : (a b c : ℤ) → (a +ℤ b) *ℤ c ≡ a *ℤ c +ℤ b *ℤ c
add-*ℤ a b c = omega (arith, ints, ap (λ n. n * up c) (sum_is_lem a b), ap (λ n. n * down c) (sum_is_lem a b))

pub *ℤ-add : (a b c : ℤ) → a *ℤ (b +ℤ c) ≡ a *ℤ b +ℤ a *ℤ c
*ℤ-add a b c = omega (arith, ints, ap (λ n. up a * n) (sum_is_lem b c), ap (λ n. down a * n) (sum_is_lem b c))

pub *ℤ-assoc : (a b c : ℤ) → (a *ℤ b) *ℤ c ≡ a *ℤ (b *ℤ c)
*ℤ-assoc a b c = omega (
  arith,
  ints,
  ap (λ n. n * up c) (product_is a b).0,
  ap (λ n. n * up c) (product_is a b).1,
  ap (λ n. n * down c) (product_is a b).0,
  ap (λ n. n * down c) (product_is a b).1,
  ap (λ n. up a * n) (product_is b c).0,
  ap (λ n. up a * n) (product_is b c).1,
  ap (λ n. down a * n) (product_is b c).0,
  ap (λ n. down a * n) (product_is b c).1,
)

pub neg-*ℤ : (a b : ℤ) → neg_ℤ a *ℤ b ≡ neg_ℤ (a *ℤ b)
neg-*ℤ a b = omega (
  arith,
  ints,
  ap (λ n. n * up b) (neg_is a).0,
  ap (λ n. n * up b) (neg_is a).1,
  ap (λ n. n * down b) (neg_is a).0,
  ap (λ n. n * down b) (neg_is a).1,
)

pub *ℤ-neg : (a b : ℤ) → a *ℤ neg_ℤ b ≡ neg_ℤ (a *ℤ b)
*ℤ-neg a b = *ℤ_comm a (neg_ℤ b) ∙ neg-*ℤ b a ∙ ap neg_ℤ (*ℤ_comm b a)

pub sub-*ℤ : (a b c : ℤ) → (a -ℤ b) *ℤ c ≡ a *ℤ c -ℤ b *ℤ c
sub-*ℤ a b c = add-*ℤ a (neg_ℤ b) c ∙ ap (λ x. a *ℤ c +ℤ x) (neg-*ℤ b c)

pub *ℤ-sub : (a b c : ℤ) → a *ℤ (b -ℤ c) ≡ a *ℤ b -ℤ a *ℤ c
*ℤ-sub a b c = *ℤ-add a b (neg_ℤ c) ∙ ap (λ x. a *ℤ b +ℤ x) (*ℤ-neg a c)

pub one-*ℤ : (a : ℤ) → pos 1 *ℤ a ≡ a
one-*ℤ a = omega (arith, ints)

pub *ℤ-left_comm : (a b c : ℤ) → a *ℤ (b *ℤ c) ≡ b *ℤ (a *ℤ c)
*ℤ-left_comm a b c = sym (*ℤ-assoc a b c) ∙ ap (λ x. x *ℤ c) (*ℤ_comm a b) ∙ *ℤ-assoc b a c

pub +ℤ-left_comm : (a b c : ℤ) → a +ℤ (b +ℤ c) ≡ b +ℤ (a +ℤ c)
+ℤ-left_comm a b c = omega (arith, ints)

-- ---- for identities with no expression written: `simp multiplied (omega (arith, linear))`. `simp` multiplies both sides out and sorts them, and `omega`, with each product as an unknown, cancels
pub ruleset multiplied = (add-*ℤ, *ℤ-add, neg-*ℤ, *ℤ-neg, neg_ℤ-+ℤ, neg_ℤ-neg_ℤ, one-*ℤ, *ℤ-assoc, *ℤ_comm, *ℤ-left_comm, +ℤ_assoc, +ℤ_comm, +ℤ-left_comm)

pub ruleset linear = (same_in, same_out, sum_is_lem, neg_is)

-- ---- sizes
pub abs-add : (a b : ℤ) → nat_abs (a +ℤ b) ≤ nat_abs a + nat_abs b
abs-add a b = omega (arith, ints)

pub abs-mul : (a b : ℤ) → nat_abs (a *ℤ b) ≡ nat_abs a * nat_abs b
abs-mul (pos a) (pos b) = refl
abs-mul (pos a) (negsuc b) = abs_neg (pos (a * suc b))
  where
    abs_neg : (z : ℤ) → nat_abs (neg_ℤ z) ≡ nat_abs z
    abs_neg z = omega (arith, ints)
abs-mul (negsuc a) (pos b) = abs_neg (pos (suc a * b))
  where
    abs_neg : (z : ℤ) → nat_abs (neg_ℤ z) ≡ nat_abs z
    abs_neg z = omega (arith, ints)
abs-mul (negsuc a) (negsuc b) = refl

-- ---- units, and no divisors of zero
one_by_one : (m n : ℕ) → m * n ≡ 1 → m ≡ 1
one_by_one zero n e = absurd (omega arith)
one_by_one (suc m) zero e = absurd (omega arith)
one_by_one (suc m) (suc n) e = omega arith

pub unit_cases : (a b : ℤ) → a *ℤ b ≡ pos 1 → (a ≡ pos 1) ⊎ (a ≡ negsuc 0)
unit_cases a b e = by_sign a (one_by_one (nat_abs a) (nat_abs b) (sym (abs-mul a b) ∙ ap nat_abs e))
  where
    by_sign : (z : ℤ) → nat_abs z ≡ 1 → (z ≡ pos 1) ⊎ (z ≡ negsuc 0)
    by_sign (pos n) h = inl (ap pos h)
    by_sign (negsuc n) h = inr (ap negsuc (omega arith))

none_by_some : (m n : ℕ) → 0 < n → m * n ≡ 0 → m ≡ 0
none_by_some m (suc n) h e = omega arith
none_by_some m zero h e = absurd (omega arith)

pub *ℤ-cancel : (a b c : ℤ) → 0 < nat_abs c → a *ℤ c ≡ b *ℤ c → a ≡ b
*ℤ-cancel a b c h e =
    let d : (a -ℤ b) *ℤ c ≡ pos 0 = sub-*ℤ a b c ∙ omega (arith, linear) in
    let z : nat_abs (a -ℤ b) ≡ 0 = none_by_some (nat_abs (a -ℤ b)) (nat_abs c) h (sym (abs-mul (a -ℤ b) c) ∙ ap nat_abs d) in
    omega (arith, ints)
