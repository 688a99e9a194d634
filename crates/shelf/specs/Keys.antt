-- Records in the order of their keys, as lists.
--     keys      what the key of a record is, and whether one key is before another
--     sorted    the key of each record is before the keys of all that follow
--     rank      how many records, from the first on, have a key before a given one
--     found     the record of a key, if there is one
--     stored    the list with a record in the place of its key, over that of the same key if there is one
--     taken     the list without the record of a key
--     located   the place of the record of a key, or else the place that it would have
use Rattle.std.specs.Prelude.{◌≡◌, ℕ, suc, Bool, true, false, cond, ◌&&◌, List, [], ◌∷◌, is_some, Some, None, Ok, Err, Option, Result}

pub record Keys (R K : Type 0) : Type 0 where
  pub key : R → K
  pub before : K → K → Bool

-- of two keys that differ one is before the other, none is before itself, and what is before a key is before those after it
pub record TotalOrder {R K : Type 0} (keys : Keys R K) : Type 0 where
  pub irreflexive : (k : K) → keys.before k k ≡ false
  pub transitive : (a b c : K) → keys.before a b ≡ true → keys.before b c ≡ true → keys.before a c ≡ true
  pub total : (a b : K) → keys.before a b ≡ false → keys.before b a ≡ false → a ≡ b

module _ {R K : Type 0} (keys : Keys R K) where
  -- whether a key is before those of all the records
  abbrev pub leads : K → List R → Bool
  leads k [] = true
  leads k (x ∷ xs) = keys.before k (keys.key x) && leads k xs

  abbrev pub sorted : List R → Bool
  sorted [] = true
  sorted (x ∷ xs) = leads (keys.key x) xs && sorted xs

  abbrev pub Sorted : List R → Type 0
  Sorted xs = sorted xs ≡ true

  abbrev pub rank : K → List R → ℕ
  rank k [] = 0
  rank k (x ∷ xs) = cond (keys.before (keys.key x) k) (suc (rank k xs)) 0

  abbrev pub found : K → List R → Option R
  found k [] = None
  found k (x ∷ xs) = cond (keys.before (keys.key x) k) (found k xs) (cond (keys.before k (keys.key x)) None (Some x))

  abbrev pub stored : R → List R → List R
  stored r [] = r ∷ []
  stored r (x ∷ xs) = cond (keys.before (keys.key x) (keys.key r)) (x ∷ stored r xs) (cond (keys.before (keys.key r) (keys.key x)) (r ∷ x ∷ xs) (r ∷ xs))

  abbrev pub taken : K → List R → List R
  taken k [] = []
  taken k (x ∷ xs) = cond (keys.before (keys.key x) k) (x ∷ taken k xs) (cond (keys.before k (keys.key x)) (x ∷ xs) xs)

  abbrev pub located : K → List R → Result ℕ ℕ
  located k xs = cond (is_some (found k xs)) (Ok (rank k xs)) (Err (rank k xs))
