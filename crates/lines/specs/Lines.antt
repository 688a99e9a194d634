-- The cells of a line.
--     reach     the larger of the two differences between the ends
--     step      a line has reach + 1 cells, at the steps 0 to reach
--     moved     how far a coordinate has moved at a step: the one with the larger difference by the number of the step, the other by its share of it, rounded to the nearest whole number, a half up
--     toward    by so much in the direction of a difference
use Rattle.std.specs.Prelude.{◌≡◌, ℕ, zero, suc, ◌+◌, ◌*◌, ◌/◌, max, cond, List, [], ◌∷◌, length, ℤ, pos, negsuc, ◌+ℤ◌, ◌-ℤ◌, neg_ℤ, ◌==◌, slice_index_or, unsigned_abs}
use Rattle.plane.specs.declared.cell.Cell.{Cell}
use Rattle.plane.specs.Cells.{AllWithin, Within}

abbrev pub reach : Cell → Cell → ℕ
reach from to = max (unsigned_abs (to.x -ℤ from.x)) (unsigned_abs (to.y -ℤ from.y))

-- at step i of a line of reach a, by a coordinate of difference d; where both differences are a, both move by i
abbrev pub moved : ℕ → ℕ → ℕ → ℕ
moved a d i = cond (d == a) i ((2 * i * d + a) / (2 * a))

abbrev pub toward : ℤ → ℕ → ℤ
toward (pos d) n = pos n
toward (negsuc d) n = neg_ℤ (pos n)

-- where a coordinate that goes from u to v stands at step i
abbrev pub stands : ℕ → ℤ → ℤ → ℕ → ℤ
stands a u v i = u +ℤ toward (v -ℤ u) (moved a (unsigned_abs (v -ℤ u)) i)

abbrev pub line_cell : Cell → Cell → ℕ → Cell
line_cell from to i = record {
  x = stands (reach from to) from.x to.x i;
  y = stands (reach from to) from.y to.y i;
}

-- n cells, from step i on
abbrev pub cells_from : Cell → Cell → ℕ → ℕ → List Cell
cells_from from to i zero = []
cells_from from to i (suc n) = line_cell from to i ∷ cells_from from to (suc i) n

unfoldable pub line_cells : Cell → Cell → List Cell
line_cells from to = cells_from from to 0 (suc (reach from to))

-- the most cells that a line may have
abbrev pub top_length : ℕ
top_length = 4096

-- cells that go from one end to the other, as many as the reach asks for, and never leave a bound on both ends
pub record Joins (from to : Cell) (cells : List Cell) : Type 0 where
  pub count : length cells ≡ suc (reach from to)
  pub first : (other : Cell) → slice_index_or cells 0 other ≡ from
  pub last : (other : Cell) → slice_index_or cells (reach from to) other ≡ to
  pub between : (n : ℕ) → Within n from → Within n to → AllWithin n cells
