-- Numbers within bounds.
use Rattle.std.specs.Prelude.{ℕ, Bool, ◌&&◌, ℤ, pos, negsuc, nat_le}

-- a number that is given; one below 0 counts as 0
abbrev pub natural : ℤ → ℕ
natural (pos m) = m
natural (negsuc m) = 0

abbrev pub from_one_to : ℕ → ℕ → Bool
from_one_to top m = nat_le 1 m && nat_le m top
