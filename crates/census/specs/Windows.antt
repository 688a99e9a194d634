-- The classes that meet a window, under any symmetry.
--     window   the cells of a width and a height, the corner being the least
use Rattle.std.specs.Prelude.{◌≡◌, ℕ, ◌<◌, Bool, true, false, cond, not, ◌&&◌, List, [], ◌∷◌, ◌++◌, ℤ, pos, ◌+ℤ◌, unsigned_abs}
use Rattle.plane.specs.declared.cell.Cell.{Cell}
use Rattle.plane.specs.declared.rectangle.RectangleRefused.TheVariants.{Side, OffSpan}
use Rattle.plane.specs.Cells.{Within, same}
use Rattle.plane.specs.Rectangles.{wrong_side}
use Rattle.plane.specs.Meaning.{Meaning}
use Rattle.groups.specs.Lists.{some}
use Rattle.census.specs.declared.fault.WindowFault.{WindowFault}
use Rattle.census.specs.declared.fault.WindowFault.TheVariants.{NoMemory, Refused}
use Rattle.census.specs.Homes.{Homes}

-- a side is from 1 to 128
abbrev pub side : ℤ → Bool
side n = not (wrong_side n)

-- a cell of the window
pub record InWindow (corner : Cell) (width height : ℤ) (c : Cell) : Type 0 where
  pub column : ℕ
  pub row : ℕ
  pub x : c.x ≡ corner.x +ℤ pos column
  pub y : c.y ≡ corner.y +ℤ pos row
  pub narrow : column < unsigned_abs width
  pub low : row < unsigned_abs height

-- the list with one home more, unless it is there
abbrev pub noted : List Cell → Cell → List Cell
noted hs h = cond (some (same h) hs) hs (hs ++ h ∷ [])

-- a list of homes, with those of some cells in their order
abbrev pub met : (Cell → Cell) → List Cell → List Cell → List Cell
met home hs [] = hs
met home hs (c ∷ cs) = met home (noted hs (home c)) cs

-- the sides are sides, every cell of the window is in the span, and these are the homes of its cells
pub record Met (m : Meaning) (corner : Cell) (width height : ℤ) (hs : List Cell) : Type 0 where
  pub sides : side width && side height ≡ true
  pub within : (c : Cell) → InWindow corner width height c → Within m.span c
  pub homes : Homes m (InWindow corner width height) hs

-- when each fault comes
abbrev pub Refuses : Meaning → Cell → ℤ → ℤ → WindowFault → Type 0
Refuses m corner width height (Refused Side) = side width && side height ≡ false
Refuses m corner width height (Refused OffSpan) = (side width && side height ≡ true) × ((c : Cell) × InWindow corner width height c × (Within m.span c → ⊥))
Refuses m corner width height NoMemory = (side width && side height ≡ true) × ((c : Cell) → InWindow corner width height c → Within m.span c)
