-- A coordinate of a line starts at one end, stops at the other, and never leaves the stretch between them.
use Rattle.std.proofs.Common.{◌≡◌, ℕ, ◌+◌, ◌*◌, ◌/◌, ◌<◌, ◌≤◌, ◌⊎◌, ℤ, pos, negsuc, ◌+ℤ◌, ◌-ℤ◌, nat_abs, sym, refl, ap, ◌∙◌, inl, inr, mul-le-mul_right, div-lt_iff_lt-mul, arith}
use native.Mathlib.Nat.{div-eq_of_lt, div-eq_of_lt-le}
use borrow.Author.Differences.{ints}
use Rattle.std.proofs.lemmas.Bool.{cases_eq}
use Rattle.std.proofs.lemmas.Bool.Decides.{nat_tests}
use Rattle.lines.specs.Lines.{moved, toward, stands}

module _ (a d i : ℕ) where
  at-reach : d ≡ a → moved a d i ≡ i
  at-reach e = grind (arith, nat_tests)

  below_reach : (d ≡ a → ⊥) → moved a d i ≡ (2 * i * d + a) / (2 * a)
  below_reach n = grind (arith, nat_tests)

-- a share of a smaller difference
share_le : (a d i : ℕ) → d < a → i ≤ a → (2 * i * d + a) / (2 * a) ≤ d
share_le a d i h k =
    let p : i * d ≤ a * d = mul-le-mul_right d k in
    let lt : 2 * i * d + a < (d + 1) * (2 * a) = omega arith in
    let q : (2 * i * d + a) / (2 * a) < d + 1 = (div-lt_iff_lt-mul {k = 2 * a} {x = 2 * i * d + a} {y = d + 1} (omega arith)).1 lt in
    omega arith

pub moved_le : (a d i : ℕ) → d ≤ a → i ≤ a → moved a d i ≤ d
moved_le a d i h k = go (cases_eq d a)
  where
    go : (d ≡ a) ⊎ (d ≡ a → ⊥) → moved a d i ≤ d
    go (inl e) = let m = at-reach a d i e in omega arith
    go (inr n) = let s : (2 * i * d + a) / (2 * a) ≤ d = share_le a d i (omega arith) k in let m = below_reach a d i n in omega arith

pub moved_first : (a d : ℕ) → d ≤ a → moved a d 0 ≡ 0
moved_first a d h = go (cases_eq d a)
  where
    go : (d ≡ a) ⊎ (d ≡ a → ⊥) → moved a d 0 ≡ 0
    go (inl e) = at-reach a d 0 e
    go (inr n) = below_reach a d 0 n ∙ div-eq_of_lt {n = 2 * 0 * d + a} {m = 2 * a} (omega arith)

pub moved_last : (a d : ℕ) → d ≤ a → moved a d a ≡ d
moved_last a d h = go (cases_eq d a)
  where
    go : (d ≡ a) ⊎ (d ≡ a → ⊥) → moved a d a ≡ d
    go (inl e) = at-reach a d a e ∙ sym e
    go (inr n) = below_reach a d a n ∙ div-eq_of_lt-le {k = d} (2 * a) {m = 2 * a * d + a} (omega arith) (omega arith)

-- ---- towards the end
toward_all : (u v : ℤ) → u +ℤ toward (v -ℤ u) (nat_abs (v -ℤ u)) ≡ v
toward_all u v = go (v -ℤ u) refl
  where
    go : (z : ℤ) → v -ℤ u ≡ z → u +ℤ toward z (nat_abs z) ≡ v
    go (pos n) e = omega (arith, ints)
    go (negsuc n) e = omega (arith, ints)

toward_none : (u z : ℤ) → u +ℤ toward z 0 ≡ u
toward_none u (pos n) = omega (arith, ints)
toward_none u (negsuc n) = omega (arith, ints)

-- a part of the way stays within a bound on both ends
toward_within : (u v : ℤ) (m n : ℕ) → m ≤ nat_abs (v -ℤ u) → nat_abs u ≤ n → nat_abs v ≤ n → nat_abs (u +ℤ toward (v -ℤ u) m) ≤ n
toward_within u v m n h p q = go (v -ℤ u) refl h
  where
    go : (z : ℤ) → v -ℤ u ≡ z → m ≤ nat_abs z → nat_abs (u +ℤ toward z m) ≤ n
    go (pos k) e l = omega (arith, ints)
    go (negsuc k) e l = omega (arith, ints)

pub stands_first : (a : ℕ) (u v : ℤ) → nat_abs (v -ℤ u) ≤ a → stands a u v 0 ≡ u
stands_first a u v h = ap (λ m. u +ℤ toward (v -ℤ u) m) (moved_first a (nat_abs (v -ℤ u)) h) ∙ toward_none u (v -ℤ u)

pub stands_last : (a : ℕ) (u v : ℤ) → nat_abs (v -ℤ u) ≤ a → stands a u v a ≡ v
stands_last a u v h = ap (λ m. u +ℤ toward (v -ℤ u) m) (moved_last a (nat_abs (v -ℤ u)) h) ∙ toward_all u v

pub stands_within : (a : ℕ) (u v : ℤ) (i n : ℕ) → nat_abs (v -ℤ u) ≤ a → i ≤ a → nat_abs u ≤ n → nat_abs v ≤ n → nat_abs (stands a u v i) ≤ n
stands_within a u v i n h k = toward_within u v (moved a (nat_abs (v -ℤ u)) i) n (moved_le a (nat_abs (v -ℤ u)) i h k)
