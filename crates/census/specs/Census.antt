-- The census of a tabled group: the homes of the cells of its repeat, and how many there are.
use Rattle.std.specs.Prelude.{◌≡◌, ℕ, ◌+◌, cond, List, [], ◌∷◌, length, pos}
use Rattle.plane.specs.declared.cell.Cell.{Cell}
use Rattle.plane.specs.Kinds.{on_mirror}
use Rattle.groups.specs.Tabled.{InRepeat, kinds_in, tabled}
use Rattle.census.specs.Homes.{Homes}

abbrev pub origin : Cell
origin = record { x = pos 0; y = pos 0 }

-- how many cells of the list lie on a mirror
abbrev pub mirrored_in : ℕ → ℕ → ℕ → List Cell → ℕ
mirrored_in number p q [] = 0
mirrored_in number p q (h ∷ hs) = cond (on_mirror (kinds_in number p q h)) 1 0 + mirrored_in number p q hs

-- a list of the homes of the repeat's cells, one for each class, with how many there are and how many lie on a mirror
pub record Counted (number p q classes mirrored : ℕ) : Type 0 where
  pub homes : List Cell
  pub are : Homes (tabled number p q) (InRepeat p q) homes
  pub many : length homes ≡ classes
  pub on_mirrors : mirrored_in number p q homes ≡ mirrored
