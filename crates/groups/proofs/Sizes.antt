-- How large the coordinates of an image are.
use Rattle.std.proofs.Common.{◌≤◌, ◌/◌, ℕ, ℤ, pos, negsuc, ◌+ℤ◌, ◌*ℤ◌, nat_abs, mul-le-mul, div-le_self, arith, SFits, w8}
use Rattle.ints.proofs.Laws.{abs-mul, abs-add}

byte_bound : (a : ℤ) → SFits w8 a → nat_abs a ≤ 128
byte_bound (pos n) h = omega (arith, h.sfits)
byte_bound (negsuc n) h = omega (arith, h.sfits)

-- before the shift
pub linear_bound : (a x b y : ℤ) → SFits w8 a → nat_abs x ≤ 1_000_000 → SFits w8 b → nat_abs y ≤ 1_000_000 → nat_abs (a *ℤ x +ℤ b *ℤ y) ≤ 1_000_000_000_000_000_000
linear_bound a x b y ha hx hb hy = omega (arith, abs-add (a *ℤ x) (b *ℤ y), abs-mul a x, abs-mul b y, mul-le-mul (byte_bound a ha) hx, mul-le-mul (byte_bound b hb) hy)

-- the shift
pub shift_bound : (s : ℤ) (p : ℕ) → SFits w8 s → p ≤ 128 → nat_abs (s *ℤ pos (p / 2)) ≤ 1_000_000_000_000_000_000
shift_bound s p hs hp =
    let half : p / 2 ≤ 128 = omega (arith, div-le_self p 2) in
    omega (arith, abs-mul s (pos (p / 2)), mul-le-mul (byte_bound s hs) half)
