-- How many records there are after one is stored or taken, and what holds of all of them.
use Rattle.std.proofs.Common.{◌≡◌, ◌+◌, Bool, true, false, cond, List, [], ◌∷◌, length, is_some, ap, ◌∙◌, length-set}
use Rattle.std.specs.List.{AllByRecursion as All}
use Rattle.std.proofs.lemmas.List.Edits.{length-insert, length-remove}
use Rattle.shelf.specs.Keys.{Keys, rank, found, stored, taken}
use Rattle.shelf.proofs.Ranks.{rank_most}
use Rattle.shelf.proofs.Finds.{rank_known, stored_known, stored_unknown, taken_known}

module _ {R K : Type 0} (keys : Keys R K) where
  pub length_stored_known : (r : R) (xs : List R) → is_some (found keys (keys.key r) xs) ≡ true → length (stored keys r xs) ≡ length xs
  length_stored_known r xs h = ap length (stored_known keys r xs h) ∙ length-set xs _ r

  pub length_stored_unknown : (r : R) (xs : List R) → is_some (found keys (keys.key r) xs) ≡ false → length (stored keys r xs) ≡ length xs + 1
  length_stored_unknown r xs h = ap length (stored_unknown keys r xs h) ∙ length-insert xs (rank keys (keys.key r) xs) r (rank_most keys (keys.key r) xs)

  pub length_taken : (k : K) (xs : List R) → is_some (found keys k xs) ≡ true → length (taken keys k xs) + 1 ≡ length xs
  length_taken k xs h = ap (λ l. length l + 1) (taken_known keys k xs h) ∙ length-remove xs (rank keys k xs) (rank_known keys k xs h)

  pub all_stored : (P : R → Type 0) (r : R) (xs : List R) → P r → All P xs → All P (stored keys r xs)
  all_stored P r [] p a = (p, tt)
  all_stored P r (x ∷ xs) p a = go (keys.before (keys.key x) (keys.key r)) (keys.before (keys.key r) (keys.key x)) (all_stored P r xs p a.1)
    where
      go : (t b : Bool) → All P (stored keys r xs) → All P (cond t (x ∷ stored keys r xs) (cond b (r ∷ x ∷ xs) (r ∷ xs)))
      go true b more = (a.0, more)
      go false true more = (p, (a.0, a.1))
      go false false more = (p, a.1)

  pub all_taken : (P : R → Type 0) (k : K) (xs : List R) → All P xs → All P (taken keys k xs)
  all_taken P k [] a = a
  all_taken P k (x ∷ xs) a = go (keys.before (keys.key x) k) (keys.before k (keys.key x)) (all_taken P k xs a.1)
    where
      go : (t b : Bool) → All P (taken keys k xs) → All P (cond t (x ∷ taken keys k xs) (cond b (x ∷ xs) xs))
      go true b more = (a.0, more)
      go false true more = a
      go false false more = a.1
