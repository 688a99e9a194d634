-- Lists of the homes of some cells: one for each class that the cells meet.
use Rattle.std.specs.Prelude.{◌≡◌, List, [], ◌∷◌}
use Rattle.plane.specs.declared.cell.Cell.{Cell}
use Rattle.plane.specs.Laws.{Carried}
use Rattle.plane.specs.Meaning.{Meaning}
use Rattle.groups.specs.Lists.{In}

-- no cell stands twice in the list
abbrev pub Distinct : List Cell → Type 0
Distinct [] = Unit {0}
Distinct (h ∷ hs) = (In h hs → ⊥) × Distinct hs

-- the list has the homes of the cells with the property, each once
pub record Homes (m : Meaning) (Here : Cell → Type 0) (hs : List Cell) : Type 0 where
  pub distinct : Distinct hs
  -- each of the cells folds to one of them
  pub all : (c : Cell) → Here c → In (m.home c) hs
  -- each of them is the home of one of the cells
  pub only : (h : Cell) → In h hs → (c : Cell) × Here c × (m.home c ≡ h)
  -- no operation joins two of them
  pub apart : (g h : Cell) → In g hs → In h hs → Carried m.operations g h → g ≡ h
