-- Numbers that fit 64 bits, and sums and differences of two of them.
use Rattle.std.proofs.Common.{◌≡◌, ℕ, ◌+◌, ◌≤◌, ℤ, pos, negsuc, ◌+ℤ◌, ◌-ℤ◌, ◌*ℤ◌, nat_abs, sym, ap, ◌∙◌, subst, ap₂, mul-le-mul, arith, w64, SFits, to_z, of_z}
use borrow.Author.Differences.{ints}
use Rattle.std.proofs.lemmas.Int.{to_z-of_z}
use Rattle.ints.specs.Products.{Factor, Term}
use Rattle.ints.proofs.Laws.{abs-mul}

-- a bound that leaves room in 64 bits
pub fits_64 : (z : ℤ) → nat_abs z ≤ 2_000_000_000_000_000_000 → SFits w64 z
fits_64 (pos n) h = record { sfits = omega arith }
fits_64 (negsuc n) h = record { sfits = omega arith }

-- a number written to its bits and read again
abbrev pub z64 : ℤ → ℤ
z64 z = to_z w64 (of_z w64 z)

pub through_64 : (z : ℤ) → nat_abs z ≤ 2_000_000_000_000_000_000 → z64 z ≡ z
through_64 z h = to_z-of_z w64 z (fits_64 z h)

pub product_bound : (a x : ℤ) → Factor a → Term x → nat_abs (a *ℤ x) ≤ 1_000_000_000_000_000_000
product_bound a x h k = omega (arith, abs-mul a x, mul-le-mul h k)

add_bound : (a b : ℤ) (m n : ℕ) → nat_abs a ≤ m → nat_abs b ≤ n → nat_abs (a +ℤ b) ≤ m + n
add_bound a b m n h k = omega (arith, ints)

sub_bound : (a b : ℤ) (m n : ℕ) → nat_abs a ≤ m → nat_abs b ≤ n → nat_abs (a -ℤ b) ≤ m + n
sub_bound a b m n h k = omega (arith, ints)

module _ (a b : ℤ) (ha : nat_abs a ≤ 1_000_000_000_000_000_000) (hb : nat_abs b ≤ 1_000_000_000_000_000_000) where
  ea : z64 a ≡ a
  ea = through_64 a (omega arith)

  eb : z64 b ≡ b
  eb = through_64 b (omega arith)

  pub sum_fits : SFits w64 (z64 a +ℤ z64 b)
  sum_fits = subst (SFits w64) (sym (ap₂ ◌+ℤ◌ ea eb)) (fits_64 (a +ℤ b) (let h = add_bound a b 1_000_000_000_000_000_000 1_000_000_000_000_000_000 ha hb in omega arith))

  pub sum_is : z64 (z64 a +ℤ z64 b) ≡ a +ℤ b
  sum_is = ap z64 (ap₂ ◌+ℤ◌ ea eb) ∙ through_64 (a +ℤ b) (let h = add_bound a b 1_000_000_000_000_000_000 1_000_000_000_000_000_000 ha hb in omega arith)

  pub difference_fits : SFits w64 (z64 a -ℤ z64 b)
  difference_fits = subst (SFits w64) (sym (ap₂ ◌-ℤ◌ ea eb)) (fits_64 (a -ℤ b) (let h = sub_bound a b 1_000_000_000_000_000_000 1_000_000_000_000_000_000 ha hb in omega arith))

  pub difference_is : z64 (z64 a -ℤ z64 b) ≡ a -ℤ b
  difference_is = ap z64 (ap₂ ◌-ℤ◌ ea eb) ∙ through_64 (a -ℤ b) (let h = sub_bound a b 1_000_000_000_000_000_000 1_000_000_000_000_000_000 ha hb in omega arith)
