-- The board of a dense canvas, and its laws.
use Rattle.std.specs.Prelude.{ℕ, List, drop}
use Rattle.dense.specs.declared.dense.DenseCanvas.{DenseCanvas}
use Rattle.canvas.specs.Board.{Board, BoardLaws}
use Rattle.dense.specs.Area.{area_board, size}
use Rattle.dense.specs.AreaLaws.{area_laws}

abbrev pub dense_board : DenseCanvas → Board
dense_board c = area_board c.area c.bytes.now c.held

-- the bytes past the area
abbrev pub later_bytes : DenseCanvas → List ℕ
later_bytes c = drop (size c.area) c.bytes.now

pub dense_laws : (c : DenseCanvas) → BoardLaws (dense_board c)
dense_laws c = area_laws c.area c.bytes.now c.held c.small c.counted
