-- The number of each refusal of the dye book, and the one that a refusal of a shelf becomes.
use Rattle.std.specs.Prelude.{ℕ}
use Rattle.shelf.specs.declared.refusal.ShelfRefused.{ShelfRefused}
use Rattle.shelf.specs.declared.refusal.ShelfRefused.TheVariants.{Full as NoRoom}
use Rattle.dyes.specs.declared.refusal.DyeRefused.{DyeRefused}
use Rattle.dyes.specs.declared.refusal.DyeRefused.TheVariants.{Malformed, Full}

abbrev pub dye_number : DyeRefused → ℕ
dye_number Malformed = 17
dye_number Full = 18

abbrev pub from_shelf : ShelfRefused → DyeRefused
from_shelf NoRoom = Full
