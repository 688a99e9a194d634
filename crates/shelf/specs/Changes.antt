-- What an insertion and a removal leave in a table of records, of which the first `count` are held, in the order of their keys, and those beyond are free.
--     fits       a record has room: its key is known, or the table has a free record
--     Stored     the record went in: n records are held, and the free ones are as they were
--     Refused    it did not: nothing has changed
--     Removed    the record x of the key went out: the free records are as they were, with the last held one now among them
--     Absent     there was none: nothing has changed
use Rattle.std.specs.Prelude.{◌≡◌, ℕ, ◌-◌, ◌<◌, ◌≤◌, Bool, true, false, ◌||◌, List, length, take, drop, is_some, Some, None, nat_lt}
use Rattle.shelf.specs.Keys.{Keys, found, stored, taken}

module _ {R K : Type 0} (keys : Keys R K) where
  abbrev pub fits : ℕ → R → List R → Bool
  fits size r xs = is_some (found keys (keys.key r) xs) || nat_lt (length xs) size

  pub record Stored (r : R) (count : ℕ) (before after : List R) (n : ℕ) : Type 0 where
    pub few : n ≤ length after
    pub free : drop n after ≡ drop n before
    pub room : fits (length before) r (take count before) ≡ true
    pub held : take n after ≡ stored keys r (take count before)

  pub record Refused (r : R) (count : ℕ) (before after : List R) : Type 0 where
    pub same : after ≡ before
    pub full : fits (length before) r (take count before) ≡ false

  pub record Removed (k : K) (count : ℕ) (before after : List R) (x : R) : Type 0 where
    pub some : 0 < count
    pub free : drop (count - 1) after ≡ drop (count - 1) before
    pub known : found keys k (take count before) ≡ Some x
    pub held : take (count - 1) after ≡ taken keys k (take count before)

  pub record Absent (k : K) (count : ℕ) (before after : List R) : Type 0 where
    pub same : after ≡ before
    pub unknown : found keys k (take count before) ≡ None
