-- The sizes that Euclid's steps keep, so that they fit 64 bits.
use Rattle.std.specs.Prelude.{ℕ, ◌+◌, ◌*◌, ◌≤◌, ℤ, pos, ◌-ℤ◌, ◌*ℤ◌, unsigned_abs}

-- of the vectors (x, m) and (z, n)
pub record Bounded (x : ℤ) (m : ℕ) (z : ℤ) (n : ℕ) : Type 0 where
  pub low : (m ≤ 256) × (n ≤ 256)
  pub near : (unsigned_abs x ≤ 131_072) × (unsigned_abs z ≤ 131_072)
  pub weight : unsigned_abs x * n + unsigned_abs z * m ≤ 131_072
  -- they are not parallel
  pub apart : 1 ≤ unsigned_abs (x *ℤ pos n -ℤ pos m *ℤ z)
