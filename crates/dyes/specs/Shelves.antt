-- The book of a list of dye records.
use Rattle.std.specs.Prelude.{ℕ, min, List, length, Some, None, Option}
use Rattle.shelf.specs.Keys.{found}
use Rattle.dyes.specs.declared.record.DyeRecord.{DyeRecord}
use Rattle.dyes.specs.Book.{Book}
use Rattle.dyes.specs.Records.{dye_keys}

abbrev pub ink_in : Option DyeRecord → Option ℕ
ink_in (Some r) = Some r.ink
ink_in None = None

-- the book of the records rs, on a table of n
abbrev pub records_book : List DyeRecord → ℕ → Book
records_book rs n = record { ink = λ m. ink_in (found dye_keys m rs); count = length rs; room = min n 15 }
