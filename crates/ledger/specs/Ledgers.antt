-- The ledger of a sheet: the laid cells in order, the newest first.
--     entry       a laid cell with the mark that it was given
--     latest      the newest entry whose cell has a property
--     untouched   no entry's cell has the property
use Rattle.std.specs.Prelude.{◌≡◌, ◌<◌, Bool, ◌⊎◌, List, [], ◌∷◌}
use Rattle.plane.specs.declared.cell.Cell.{Cell}
use Rattle.sheet.specs.declared.mark.Mark.{Mark}
use Rattle.views.specs.Tints.{tinted}

pub record Entry : Type 0 where
  pub cell : Cell
  pub mark : Mark

abbrev pub Ledger : Type 0
Ledger = List Entry

abbrev pub Latest : (Cell → Type 0) → Ledger → Entry → Type 0
Latest R [] l = ⊥
Latest R (e ∷ L) l = (R e.cell × (e ≡ l)) ⊎ ((R e.cell → ⊥) × Latest R L l)

abbrev pub Untouched : (Cell → Type 0) → Ledger → Type 0
Untouched R [] = Unit {0}
Untouched R (e ∷ L) = (R e.cell → ⊥) × Untouched R L

-- a mark that is not bare: its ink is not 0
abbrev pub Colours : Mark → Type 0
Colours mark = 0 < mark.ink

-- a mark as an operation carries it: with the counterpart ink if the operation is odd
abbrev pub tinted_mark : Bool → Mark → Mark
tinted_mark odd mark = record { ink = tinted odd mark.ink }
