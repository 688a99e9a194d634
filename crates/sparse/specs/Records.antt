-- Records of a cell with signed 32-bit coordinates and an ink.
--     narrow    a signed number of 32 bits
--     framed    both coordinates of the cell are narrow
use Rattle.std.specs.Prelude.{ℕ, Bool, cond, ◌&&◌, List, ℤ, pos, negsuc, Some, None, Option, int_le}
use Rattle.plane.specs.declared.cell.Cell.{Cell}
use Rattle.canvas.specs.Board.{Board}
use Rattle.canvas.specs.Records.{keys, all_sound, record-board}
use Rattle.shelf.specs.Keys.{Keys}
use Rattle.sparse.specs.declared.record.CellRecord.{CellRecord}

abbrev pub cell_of : CellRecord → Cell
cell_of r = record { x = r.x; y = r.y }

abbrev pub ink_of : CellRecord → ℕ
ink_of r = r.ink

abbrev pub narrow : ℤ → Bool
narrow x = int_le (negsuc 2147483647) x && int_le x (pos 2147483647)

abbrev pub framed : Cell → Bool
framed p = narrow p.x && narrow p.y

-- the record of a cell and an ink, if the cell is framed
abbrev pub record_if : Cell → ℕ → Option CellRecord
record_if p ink = cond (framed p) (Some (record { x = p.x; y = p.y; ink = ink })) None

-- records are ordered by their cells
abbrev pub cell_keys : Keys CellRecord Cell
cell_keys = keys cell_of ink_of framed

-- each has an ink and a framed cell
abbrev pub sound : List CellRecord → Bool
sound rs = all_sound cell_of ink_of framed rs

-- the board of the records rs, on a table of n
abbrev pub cells_board : List CellRecord → ℕ → Board
cells_board rs n = record-board cell_of ink_of framed rs n
