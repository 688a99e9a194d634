-- The number of each refusal of a put, and the one that a refusal of a shelf becomes.
use Rattle.std.specs.Prelude.{ℕ}
use Rattle.shelf.specs.declared.refusal.ShelfRefused.{ShelfRefused}
use Rattle.shelf.specs.declared.refusal.ShelfRefused.TheVariants.{Full}
use Rattle.canvas.specs.declared.refusal.PutRefused.{PutRefused}
use Rattle.canvas.specs.declared.refusal.PutRefused.TheVariants.{Ink, Frame, Seats}

abbrev pub put_number : PutRefused → ℕ
put_number Ink = 1
put_number Frame = 4
put_number Seats = 5

abbrev pub from_shelf : ShelfRefused → PutRefused
from_shelf Full = Seats
