-- How many of the first n values of a function are not 0.
use Rattle.std.specs.Prelude.{ℕ, zero, suc, ◌+◌, cond, ◌==◌}

-- 0 for 0, and 1 for any other number
abbrev pub mark : ℕ → ℕ
mark v = cond (v == 0) 0 1

abbrev pub tally : (ℕ → ℕ) → ℕ → ℕ
tally f zero = 0
tally f (suc n) = tally f n + mark (f n)
