-- The board of a list of records, each of a cell and an ink, in the order of their cells.
--     cell, ink   what a record says
--     keys        a record's key is its cell; a key is before another if it is the earlier cell
--     sound       a record's ink is 1 to 15, and its cell lies in the frame
use Rattle.std.specs.Prelude.{ℕ, Bool, ◌&&◌, List, length, Some, None, Option, nat_le, nat_lt}
use Rattle.std.specs.List.{list_all}
use Rattle.plane.specs.declared.cell.Cell.{Cell}
use Rattle.plane.specs.Cells.{earlier}
use Rattle.shelf.specs.Keys.{Keys, found}
use Rattle.canvas.specs.Inks.{top_ink}
use Rattle.canvas.specs.Board.{Board}

module _ {R : Type 0} (cell : R → Cell) (ink : R → ℕ) (frame : Cell → Bool) where
  abbrev pub keys : Keys R Cell
  keys = record { key = cell; before = earlier }

  abbrev pub sound : R → Bool
  sound r = nat_lt 0 (ink r) && (nat_le (ink r) top_ink && frame (cell r))

  abbrev pub all_sound : List R → Bool
  all_sound rs = list_all sound rs

  abbrev pub ink_of : Option R → ℕ
  ink_of (Some r) = ink r
  ink_of None = 0

  -- the board of the records rs, on a table of n
  abbrev pub record-board : List R → ℕ → Board
  record-board rs n = record { inks = λ p. ink_of (found keys p rs); frame = frame; seats = n; held = length rs }
