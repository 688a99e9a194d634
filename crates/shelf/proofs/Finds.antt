-- The record of a key is found, stored and taken at the rank of the key. Each step looks at how the first key compares: a is whether it is before the given one, b whether it is after.
use Rattle.std.proofs.Common.{◌≡◌, suc, ◌<◌, Bool, true, false, cond, List, [], ◌∷◌, length, get_or, set, is_some, Some, None, refl, ap, suc-le-suc, arith}
use Rattle.std.specs.List.{insert, remove}
use Rattle.shelf.specs.Keys.{Keys, rank, found, stored, taken}

module _ {R K : Type 0} (keys : Keys R K) where
  abbrev Known : K → List R → Type 0
  Known k xs = is_some (found keys k xs) ≡ true

  abbrev Unknown : K → List R → Type 0
  Unknown k xs = is_some (found keys k xs) ≡ false

  -- a key that is found has its rank below the number of records
  pub rank_known : (k : K) (xs : List R) → Known k xs → rank keys k xs < length xs
  rank_known k [] h = cc
  rank_known k (x ∷ xs) h = go (keys.before (keys.key x) k) (keys.before k (keys.key x)) (rank_known k xs) h
    where
      go : (a b : Bool) → (Known k xs → rank keys k xs < length xs) → is_some (cond a (found keys k xs) (cond b None (Some x))) ≡ true → cond a (suc (rank keys k xs)) 0 < suc (length xs)
      go true b more h = suc-le-suc (more h)
      go false b more h = omega arith

  pub found_known : (k : K) (xs : List R) (d : R) → Known k xs → found keys k xs ≡ Some (get_or xs (rank keys k xs) d)
  found_known k [] d h = cc
  found_known k (x ∷ xs) d h = go (keys.before (keys.key x) k) (keys.before k (keys.key x)) (found_known k xs d) h
    where
      go : (a b : Bool) → (Known k xs → found keys k xs ≡ Some (get_or xs (rank keys k xs) d)) → is_some (cond a (found keys k xs) (cond b None (Some x))) ≡ true → cond a (found keys k xs) (cond b None (Some x)) ≡ Some (get_or (x ∷ xs) (cond a (suc (rank keys k xs)) 0) d)
      go true b more h = more h
      go false true more h = cc
      go false false more h = refl

  pub stored_known : (r : R) (xs : List R) → Known (keys.key r) xs → stored keys r xs ≡ set xs (rank keys (keys.key r) xs) r
  stored_known r [] h = cc
  stored_known r (x ∷ xs) h = go (keys.before (keys.key x) (keys.key r)) (keys.before (keys.key r) (keys.key x)) (stored_known r xs) h
    where
      go : (a b : Bool) → (Known (keys.key r) xs → stored keys r xs ≡ set xs (rank keys (keys.key r) xs) r) → is_some (cond a (found keys (keys.key r) xs) (cond b None (Some x))) ≡ true → cond a (x ∷ stored keys r xs) (cond b (r ∷ x ∷ xs) (r ∷ xs)) ≡ set (x ∷ xs) (cond a (suc (rank keys (keys.key r) xs)) 0) r
      go true b more h = ap (λ (l : List R). x ∷ l) (more h)
      go false true more h = cc
      go false false more h = refl

  pub stored_unknown : (r : R) (xs : List R) → Unknown (keys.key r) xs → stored keys r xs ≡ insert xs (rank keys (keys.key r) xs) r
  stored_unknown r [] h = refl
  stored_unknown r (x ∷ xs) h = go (keys.before (keys.key x) (keys.key r)) (keys.before (keys.key r) (keys.key x)) (stored_unknown r xs) h
    where
      go : (a b : Bool) → (Unknown (keys.key r) xs → stored keys r xs ≡ insert xs (rank keys (keys.key r) xs) r) → is_some (cond a (found keys (keys.key r) xs) (cond b None (Some x))) ≡ false → cond a (x ∷ stored keys r xs) (cond b (r ∷ x ∷ xs) (r ∷ xs)) ≡ insert (x ∷ xs) (cond a (suc (rank keys (keys.key r) xs)) 0) r
      go true b more h = ap (λ (l : List R). x ∷ l) (more h)
      go false true more h = refl
      go false false more h = cc

  pub taken_known : (k : K) (xs : List R) → Known k xs → taken keys k xs ≡ remove xs (rank keys k xs)
  taken_known k [] h = cc
  taken_known k (x ∷ xs) h = go (keys.before (keys.key x) k) (keys.before k (keys.key x)) (taken_known k xs) h
    where
      go : (a b : Bool) → (Known k xs → taken keys k xs ≡ remove xs (rank keys k xs)) → is_some (cond a (found keys k xs) (cond b None (Some x))) ≡ true → cond a (x ∷ taken keys k xs) (cond b (x ∷ xs) xs) ≡ remove (x ∷ xs) (cond a (suc (rank keys k xs)) 0)
      go true b more h = ap (λ (l : List R). x ∷ l) (more h)
      go false true more h = cc
      go false false more h = refl

  pub taken_unknown : (k : K) (xs : List R) → Unknown k xs → taken keys k xs ≡ xs
  taken_unknown k [] h = refl
  taken_unknown k (x ∷ xs) h = go (keys.before (keys.key x) k) (keys.before k (keys.key x)) (taken_unknown k xs) h
    where
      go : (a b : Bool) → (Unknown k xs → taken keys k xs ≡ xs) → is_some (cond a (found keys k xs) (cond b None (Some x))) ≡ false → cond a (x ∷ taken keys k xs) (cond b (x ∷ xs) xs) ≡ x ∷ xs
      go true b more h = ap (λ (l : List R). x ∷ l) (more h)
      go false true more h = refl
      go false false more h = cc
