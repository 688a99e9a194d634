-- The area of a new dense canvas, and the empty board over it.
use Rattle.std.specs.Prelude.{ℕ, ◌/◌, min, cond, List, ◌++◌, drop, replicate, ℤ, pos, int_lt, unsigned_abs}
use Rattle.dense.specs.declared.area.Area.{Area}
use Rattle.canvas.specs.Board.{Board}
use Rattle.dense.specs.Area.{covers, size}

-- a width below 1 counts as 1 and above 128 as 128
abbrev pub side_of : ℤ → ℕ
side_of w = cond (int_lt w (pos 1)) 1 (cond (int_lt (pos 128) w) 128 (unsigned_abs w))

-- as many rows as the bytes fill, at most 128
abbrev pub rows_of : ℕ → ℕ → ℕ
rows_of n side = min (n / side) 128

abbrev pub area_of : ℤ → ℤ → ℤ → ℕ → Area
area_of x y w n = record { x = x; y = y; width = side_of w; height = rows_of n (side_of w) }

abbrev pub empty_board : Area → Board
empty_board a = record { inks = λ q. 0; frame = λ q. covers a q; seats = size a; held = 0 }

-- the first n bytes are 0, and the later ones as they were
abbrev pub zeroed : ℕ → List ℕ → List ℕ
zeroed n bytes = replicate n 0 ++ drop n bytes
