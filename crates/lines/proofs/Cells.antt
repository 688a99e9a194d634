-- The laws of the cells of a line: how many they are, which stands at each step, that they go from end to end, and that they stay within every bound on both ends.
use Rattle.std.proofs.Common.{◌≡◌, ℕ, zero, suc, ◌+◌, ◌<◌, ◌≤◌, [], ◌∷◌, length, get_or, ◌-ℤ◌, nat_abs, sym, refl, ap, ◌∙◌, add-zero, arith}
use borrow.Author.Differences.{ints}
use native.Mathlib.Nat.{le-max_left, le-max_right}
use Rattle.plane.specs.declared.cell.Cell.{Cell}
use Rattle.plane.specs.Cells.{AllWithin, Within}
use Rattle.plane.proofs.Algebra.{same-cell}
use Rattle.lines.specs.Lines.{reach, line_cell, cells_from, line_cells, Joins}
use Rattle.lines.proofs.Moves.{stands_first, stands_last, stands_within}

pub wide_reach : (from to : Cell) → nat_abs (to.x -ℤ from.x) ≤ reach from to
wide_reach from to = le-max_left (nat_abs (to.x -ℤ from.x)) (nat_abs (to.y -ℤ from.y))

pub high_reach : (from to : Cell) → nat_abs (to.y -ℤ from.y) ≤ reach from to
high_reach from to = le-max_right (nat_abs (to.x -ℤ from.x)) (nat_abs (to.y -ℤ from.y))

pub cell_first : (from to : Cell) → line_cell from to 0 ≡ from
cell_first from to = same-cell (stands_first (reach from to) from.x to.x (wide_reach from to)) (stands_first (reach from to) from.y to.y (high_reach from to))

pub cell_last : (from to : Cell) → line_cell from to (reach from to) ≡ to
cell_last from to = same-cell (stands_last (reach from to) from.x to.x (wide_reach from to)) (stands_last (reach from to) from.y to.y (high_reach from to))

pub cell_within : (from to : Cell) (i n : ℕ) → i ≤ reach from to → Within n from → Within n to → Within n (line_cell from to i)
cell_within from to i n h p q =
    (stands_within (reach from to) from.x to.x i n (wide_reach from to) h p.0 q.0, stands_within (reach from to) from.y to.y i n (high_reach from to) h p.1 q.1)

-- ---- the cells from a step on
from_length : (from to : Cell) (i n : ℕ) → length (cells_from from to i n) ≡ n
from_length from to i zero = refl
from_length from to i (suc n) = ap suc (from_length from to (suc i) n)

from_at : (from to : Cell) (i n k : ℕ) (other : Cell) → k < n → get_or (cells_from from to i n) k other ≡ line_cell from to (i + k)
from_at from to i zero k other h = absurd (omega arith)
from_at from to i (suc n) zero other h = ap (line_cell from to) (sym (add-zero i))
from_at from to i (suc n) (suc k) other h = from_at from to (suc i) n k other (omega arith) ∙ ap (line_cell from to) (omega arith)

from_past : (from to : Cell) (i n k : ℕ) (other : Cell) → n ≤ k → get_or (cells_from from to i n) k other ≡ other
from_past from to i zero k other h = refl
from_past from to i (suc n) zero other h = absurd (omega arith)
from_past from to i (suc n) (suc k) other h = from_past from to (suc i) n k other (omega arith)

from_within : (from to : Cell) (bound : ℕ) → Within bound from → Within bound to → (i n : ℕ) → i + n ≤ suc (reach from to) → AllWithin bound (cells_from from to i n)
from_within from to bound p q i zero h = tt
from_within from to bound p q i (suc n) h = (cell_within from to i bound (omega arith) p q, from_within from to bound p q (suc i) n (omega arith))

-- ---- the laws
pub line_length : (from to : Cell) → length (line_cells from to) ≡ suc (reach from to)
unfolding line_cells
line_length from to = from_length from to 0 (suc (reach from to))

pub line_at : (from to : Cell) (i : ℕ) (other : Cell) → i ≤ reach from to → get_or (line_cells from to) i other ≡ line_cell from to i
unfolding line_cells
line_at from to i other h = from_at from to 0 (suc (reach from to)) i other (omega arith) ∙ ap (line_cell from to) (omega arith)

pub line_past : (from to : Cell) (i : ℕ) (other : Cell) → reach from to < i → get_or (line_cells from to) i other ≡ other
unfolding line_cells
line_past from to i other h = from_past from to 0 (suc (reach from to)) i other (omega arith)

pub line_first : (from to other : Cell) → get_or (line_cells from to) 0 other ≡ from
line_first from to other = line_at from to 0 other (omega arith) ∙ cell_first from to

pub line_last : (from to other : Cell) → get_or (line_cells from to) (reach from to) other ≡ to
line_last from to other = line_at from to (reach from to) other (omega arith) ∙ cell_last from to

pub line_within : (from to : Cell) (n : ℕ) → Within n from → Within n to → AllWithin n (line_cells from to)
unfolding line_cells
line_within from to n p q = from_within from to n p q 0 (suc (reach from to)) (omega arith)

pub line_joins : (from to : Cell) → Joins from to (line_cells from to)
line_joins from to = record { count = line_length from to; first = line_first from to; last = line_last from to; between = line_within from to }

-- the line from a cell to itself
pub line_alone : (at : Cell) → line_cells at at ≡ at ∷ []
unfolding line_cells
line_alone at =
    let none : 0 ≡ reach at at = omega (arith, ints) in
    ap (λ n. cells_from at at 0 (suc n)) (sym none) ∙ ap (λ p. p ∷ []) (cell_first at at)
