-- The sizes at which a sum of two products fits 64 bits.
use Rattle.std.specs.Prelude.{◌≤◌, ℤ, unsigned_abs}

-- a number that multiplies another
abbrev pub Factor : ℤ → Type 0
Factor a = unsigned_abs a ≤ 1_000_000

-- a number that is multiplied
abbrev pub Term : ℤ → Type 0
Term x = unsigned_abs x ≤ 1_000_000_000_000
