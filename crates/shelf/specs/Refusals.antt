-- The number of each refusal of a shelf.
use Rattle.std.specs.Prelude.{ℕ}
use Rattle.shelf.specs.declared.refusal.ShelfRefused.{ShelfRefused}
use Rattle.shelf.specs.declared.refusal.ShelfRefused.TheVariants.{Full}

abbrev pub shelf_number : ShelfRefused → ℕ
shelf_number Full = 5
