-- Cells: where they lie, and their order.
--     cell      a pair of whole numbers without limit: x its column, y its row
--     earlier   in a smaller row, or in the same row and a smaller column; the least of several cells is the one that no other is earlier than
use Rattle.std.specs.Prelude.{ℕ, ◌≤◌, Bool, true, ◌&&◌, ◌||◌, List, [], ◌∷◌, int_le, int_lt, nat_le, unsigned_abs}
use Rattle.std.specs.Ordering.{int_eq}
use Rattle.plane.specs.declared.cell.Cell.{Cell}

-- at most n columns and n rows from the origin
abbrev pub Within : ℕ → Cell → Type 0
Within n p = (unsigned_abs p.x ≤ n) × (unsigned_abs p.y ≤ n)

-- the same as a test
abbrev pub inside : ℕ → Cell → Bool
inside n p = nat_le (unsigned_abs p.x) n && nat_le (unsigned_abs p.y) n

-- whether the first of two cells comes before the second
abbrev pub earlier : Cell → Cell → Bool
earlier p q = int_lt p.y q.y || int_le p.y q.y && int_lt p.x q.x

-- whether two cells are one
abbrev pub same : Cell → Cell → Bool
same p q = int_eq p.x q.x && int_eq p.y q.y

-- every cell of a list is at most n columns and n rows from the origin
abbrev pub AllWithin : ℕ → List Cell → Type 0
AllWithin n [] = Unit {0}
AllWithin n (p ∷ ps) = Within n p × AllWithin n ps

-- the same as a test
abbrev pub all_inside : ℕ → List Cell → Bool
all_inside n [] = true
all_inside n (p ∷ ps) = inside n p && all_inside n ps
