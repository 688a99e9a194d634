-- The board of a sparse canvas, and its laws.
use Rattle.std.specs.Prelude.{ℕ}
use Rattle.std.proofs.Common.{arith, length-take}
use Rattle.canvas.specs.Board.{Board, BoardLaws}
use Rattle.canvas.proofs.Recorded.{record_laws}
use Rattle.shelf.specs.Held.{table, held, size}
use Rattle.sparse.specs.declared.sparse.SparseCanvas.{SparseCanvas}
use Rattle.sparse.specs.Records.{cell_of, ink_of, framed, cells_board}

abbrev pub sparse_board : SparseCanvas → Board
sparse_board c = cells_board (held c.shelf) (size c.shelf)

-- n seats, and no cell held
abbrev pub bare_board : ℕ → Board
bare_board n = record { inks = λ p. 0; frame = framed; seats = n; held = 0 }

pub sparse_laws : (c : SparseCanvas) → BoardLaws (sparse_board c)
sparse_laws c = record_laws cell_of ink_of framed (held c.shelf) (size c.shelf) c.shelf.sorted c.sound (omega (arith, length-take c.shelf.count (table c.shelf)))
