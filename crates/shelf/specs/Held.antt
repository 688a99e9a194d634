-- A shelf as a list of held records and a list of free ones.
--     table     all the records that the caller lent
--     held      the records in use, the first of the table, in the order of their keys
--     free      those beyond
--     size      how many records the table has
use Rattle.std.specs.Prelude.{◌≡◌, ℕ, cond, List, length, take, drop, Ok, Err, Option, Result}
use Rattle.shelf.specs.declared.record.Record.{Ghosts as Record}
use Rattle.shelf.specs.declared.shelf.Shelf.{Shelf}
use Rattle.shelf.specs.declared.refusal.ShelfRefused.{ShelfRefused}
use Rattle.shelf.specs.declared.refusal.ShelfRefused.TheVariants.{Full}
use Rattle.shelf.specs.Keys.{Keys, found, stored, taken}
use Rattle.shelf.specs.Changes.{fits}

module _ {R K : Type 0} (keys : Keys R K) where
  -- what an insertion answers, where xs is held and the table has n records
  abbrev pub insert-answer : ℕ → R → List R → Result (Unit {0}) ShelfRefused
  insert-answer n r xs = cond (fits keys n r xs) (Ok tt) (Err Full)

  -- what is held after it
  abbrev pub insert-held : ℕ → R → List R → List R
  insert-held n r xs = cond (fits keys n r xs) (stored keys r xs) xs

-- the records are of the type R, and their keys of the type K
module _ {R K : Type 0} {record' : Record R K} where
  abbrev pub table : Shelf R K record' → List R
  table s = s.records.now

  abbrev pub held : Shelf R K record' → List R
  held s = take s.count (table s)

  abbrev pub free : Shelf R K record' → List R
  free s = drop s.count (table s)

  abbrev pub size : Shelf R K record' → ℕ
  size s = length (table s)

  -- what every change leaves: beyond the held records the table is as it was
  pub record Kept (before after : Shelf R K record') : Type 0 where
    pub free : free after ≡ drop (length (held after)) (table before)
    pub size : size after ≡ size before

  -- what an insertion of r answers and leaves
  pub record Inserts (r : R) (before after : Shelf R K record') (answer : Result (Unit {0}) ShelfRefused) : Type 0 where
    pub answers : answer ≡ insert-answer record'.keys (size before) r (held before)
    pub holds : held after ≡ insert-held record'.keys (size before) r (held before)
    pub keeps : Kept before after

  -- what a removal of the key k answers and leaves
  pub record Removes (k : K) (before after : Shelf R K record') (answer : Option R) : Type 0 where
    pub answers : answer ≡ found record'.keys k (held before)
    pub holds : held after ≡ taken record'.keys k (held before)
    pub keeps : Kept before after
