-- The inks of a list of dye records.
--     by_ink     the first record with an ink
--     Numbered   each ink is from 1 to the number of records, and no two records share one
--     Each       each ink from 1 to the number of records is there
use Rattle.std.specs.Prelude.{◌≡◌, ℕ, ◌<◌, ◌≤◌, Bool, true, cond, not, ◌&&◌, List, [], ◌∷◌, length, is_some, Some, None, Option, ◌==◌, nat_le}
use Rattle.std.specs.List.{list_all}
use Rattle.dyes.specs.declared.record.DyeRecord.{DyeRecord}

abbrev pub by_ink : ℕ → List DyeRecord → Option DyeRecord
by_ink k [] = None
by_ink k (r ∷ rs) = cond (r.ink == k) (Some r) (by_ink k rs)

-- the ink of a record is one of the first n
abbrev pub among : ℕ → DyeRecord → Bool
among n r = nat_le 1 r.ink && nat_le r.ink n

-- no record has the ink
abbrev pub fresh : ℕ → List DyeRecord → Bool
fresh k rs = list_all (λ r. not (r.ink == k)) rs

abbrev pub apart : List DyeRecord → Bool
apart [] = true
apart (r ∷ rs) = fresh r.ink rs && apart rs

abbrev pub Numbered : List DyeRecord → Type 0
Numbered rs = (list_all (among (length rs)) rs && apart rs) ≡ true

abbrev pub Each : List DyeRecord → Type 0
Each rs = (k : ℕ) → (0 < k) × (k ≤ length rs) → is_some (by_ink k rs) ≡ true
