-- Rectangles of cells.
--     corner    the cell of the rectangle with the least column and the least row
use Rattle.std.specs.Prelude.{ℕ, zero, suc, ◌+◌, ◌*◌, Bool, cond, not, ◌||◌, List, [], ◌∷◌, ◌++◌, drop, ℤ, pos, ◌+ℤ◌, Some, None, Option, int_lt, unsigned_abs}
use Rattle.plane.specs.declared.cell.Cell.{Cell}
use Rattle.plane.specs.declared.rectangle.Rectangle.{Rectangle}
use Rattle.plane.specs.declared.rectangle.RectangleRefused.{RectangleRefused}
use Rattle.plane.specs.declared.rectangle.RectangleRefused.TheVariants.{Side, OffSpan}
use Rattle.plane.specs.Cells.{all_inside}

-- the cell so many columns and rows from a corner
abbrev pub cell_from : Cell → ℕ → ℕ → Cell
cell_from corner column row = record { x = corner.x +ℤ pos column; y = corner.y +ℤ pos row }

-- the first n cells of a row
unfoldable pub row_cells : Cell → ℕ → ℕ → List Cell
row_cells corner row zero = []
row_cells corner row (suc n) = row_cells corner row n ++ (cell_from corner n row ∷ [])

-- the cells of a rectangle, row by row
unfoldable pub window_cells : Cell → ℕ → ℕ → List Cell
window_cells corner width zero = []
window_cells corner width (suc n) = window_cells corner width n ++ row_cells corner n width

-- below 1 or above 128
abbrev pub wrong_side : ℤ → Bool
wrong_side n = int_lt n (pos 1) || int_lt (pos 128) n

-- why a rectangle is refused as a window, if it is: first for a side, then for a cell that is off the span
abbrev pub rectangle_refusal : ℕ → Rectangle → Option RectangleRefused
rectangle_refusal span r =
    cond (wrong_side r.width || wrong_side r.height) (Some Side)
    (cond (not (all_inside span (window_cells r.corner (unsigned_abs r.width) (unsigned_abs r.height)))) (Some OffSpan) None)

-- those from a column of a row on
abbrev pub cells_from : Cell → ℕ → ℕ → ℕ → ℕ → List Cell
cells_from corner width height column row = drop (row * width + column) (window_cells corner width height)

abbrev pub rectangle_number : RectangleRefused → ℕ
rectangle_number Side = 8
rectangle_number OffSpan = 2
