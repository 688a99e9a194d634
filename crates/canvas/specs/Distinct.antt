-- Lists of cells that are all different.
--     Member     the cell is in the list
--     Distinct   no cell is in the list twice
--     Lists      the list has, once each, exactly the cells with a property
use Rattle.std.specs.Prelude.{◌≡◌, ◌⊎◌, ◌↔◌, List, [], ◌∷◌}
use Rattle.plane.specs.declared.cell.Cell.{Cell}

abbrev pub Member : Cell → List Cell → Type 0
Member p [] = ⊥
Member p (q ∷ qs) = (p ≡ q) ⊎ Member p qs

abbrev pub Distinct : List Cell → Type 0
Distinct [] = Unit {0}
Distinct (q ∷ qs) = (Member q qs → ⊥) × Distinct qs

pub record Lists (P : Cell → Type 0) (qs : List Cell) : Type 0 where
  pub distinct : Distinct qs
  pub exact : (p : Cell) → Member p qs ↔ P p
