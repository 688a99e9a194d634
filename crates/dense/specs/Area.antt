-- The cells of an area, and the board of a byte for each of them.
--     spans     x is one of the n columns (or rows) from a first one on
--     covers    the area has the cell
--     place     where the cell's byte is, row by row
--     size      how many cells the area has
use Rattle.std.specs.Prelude.{ℕ, ◌+◌, ◌*◌, ◌<◌, ◌≤◌, Bool, cond, ◌&&◌, List, ℤ, pos, ◌+ℤ◌, ◌-ℤ◌, Some, None, Option, int_le, int_lt, slice_index, unsigned_abs}
use Rattle.plane.specs.declared.cell.Cell.{Cell}
use Rattle.dense.specs.declared.area.Area.{Area}
use Rattle.canvas.specs.Board.{Board}
use Rattle.canvas.specs.Tally.{tally}

abbrev pub spans : ℤ → ℕ → ℤ → Bool
spans from n x = int_le from x && int_lt x (from +ℤ pos n)

abbrev pub covers : Area → Cell → Bool
covers a p = spans a.x a.width p.x && spans a.y a.height p.y

abbrev pub place : Area → Cell → ℕ
place a p = unsigned_abs (p.y -ℤ a.y) * a.width + unsigned_abs (p.x -ℤ a.x)

abbrev pub size : Area → ℕ
size a = a.width * a.height

-- how far x is from the first of n, if it is one of them
abbrev pub offset_if : ℤ → ℕ → ℤ → Option ℕ
offset_if from n x = cond (spans from n x) (Some (unsigned_abs (x -ℤ from))) None

-- the place of a cell, if the area has it
abbrev pub place_if : Area → Cell → Option ℕ
place_if a p = cond (covers a p) (Some (place a p)) None

-- the board of a byte for each cell of the area
abbrev pub area_board : Area → List ℕ → ℕ → Board
area_board a bytes n = record {
  inks = λ p. cond (covers a p) (slice_index bytes (place a p)) 0;
  frame = λ p. covers a p;
  seats = size a;
  held = n;
}

abbrev pub Inked : Area → List ℕ → Type 0
Inked a bytes = (i : ℕ) → i < size a → slice_index bytes i ≤ 15

-- the bytes of the area that are not 0
abbrev pub inked : Area → List ℕ → ℕ
inked a bytes = tally (λ i. slice_index bytes i) (size a)
