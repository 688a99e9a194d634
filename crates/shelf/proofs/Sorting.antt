-- A sorted list stays sorted when a record is stored in it or taken from it.
use Rattle.std.proofs.Common.{◌≡◌, Bool, true, false, cond, List, [], ◌∷◌, refl, subst}
use Rattle.std.proofs.lemmas.Bool.{and_parts, and_from}
use Rattle.shelf.specs.Keys.{Keys, TotalOrder, leads, sorted, Sorted, stored, taken}

module _ {R K : Type 0} (keys : Keys R K) (o : TotalOrder keys) where
  -- a key before one that leads the list leads it too
  pub leads_before : (j k : K) (xs : List R) → keys.before j k ≡ true → leads keys k xs ≡ true → leads keys j xs ≡ true
  leads_before j k [] b h = refl
  leads_before j k (x ∷ xs) b h =
      let p = and_parts (keys.before k (keys.key x)) (leads keys k xs) h in
      and_from _ _ (o.transitive _ _ _ b p.0) (leads_before j k xs b p.1)

  leads_stored : (k : K) (r : R) (xs : List R) → keys.before k (keys.key r) ≡ true → leads keys k xs ≡ true → leads keys k (stored keys r xs) ≡ true
  leads_stored k r [] b h = and_from _ _ b refl
  leads_stored k r (x ∷ xs) b h =
      let p = and_parts (keys.before k (keys.key x)) (leads keys k xs) h in
      go (keys.before (keys.key x) (keys.key r)) (keys.before (keys.key r) (keys.key x)) p.0 p.1 (leads_stored k r xs b p.1)
    where
      go : (a c : Bool) → keys.before k (keys.key x) ≡ true → leads keys k xs ≡ true → leads keys k (stored keys r xs) ≡ true → leads keys k (cond a (x ∷ stored keys r xs) (cond c (r ∷ x ∷ xs) (r ∷ xs))) ≡ true
      go true c f l more = and_from _ _ f more
      go false true f l more = and_from _ _ b (and_from _ _ f l)
      go false false f l more = and_from _ _ b l

  leads_taken : (j k : K) (xs : List R) → leads keys j xs ≡ true → leads keys j (taken keys k xs) ≡ true
  leads_taken j k [] h = refl
  leads_taken j k (x ∷ xs) h =
      let p = and_parts (keys.before j (keys.key x)) (leads keys j xs) h in
      go (keys.before (keys.key x) k) (keys.before k (keys.key x)) p.0 p.1 (leads_taken j k xs p.1)
    where
      go : (a c : Bool) → keys.before j (keys.key x) ≡ true → leads keys j xs ≡ true → leads keys j (taken keys k xs) ≡ true → leads keys j (cond a (x ∷ taken keys k xs) (cond c (x ∷ xs) xs)) ≡ true
      go true c f l more = and_from _ _ f more
      go false true f l more = and_from _ _ f l
      go false false f l more = l

  pub stored_sorted : (r : R) (xs : List R) → Sorted keys xs → Sorted keys (stored keys r xs)
  stored_sorted r [] s = refl
  stored_sorted r (x ∷ xs) s =
      let p = and_parts (leads keys (keys.key x) xs) (sorted keys xs) s in
      go (keys.before (keys.key x) (keys.key r)) (keys.before (keys.key r) (keys.key x)) refl refl p.0 p.1 (stored_sorted r xs p.1)
    where
      go : (a c : Bool) → keys.before (keys.key x) (keys.key r) ≡ a → keys.before (keys.key r) (keys.key x) ≡ c → leads keys (keys.key x) xs ≡ true → Sorted keys xs → Sorted keys (stored keys r xs) → Sorted keys (cond a (x ∷ stored keys r xs) (cond c (r ∷ x ∷ xs) (r ∷ xs)))
      go true c ea ec l t more = and_from _ _ (leads_stored (keys.key x) r xs ea l) more
      go false true ea ec l t more = and_from _ _ (and_from _ _ ec (leads_before (keys.key r) (keys.key x) xs ec l)) (and_from _ _ l t)
      go false false ea ec l t more = and_from _ _ (subst (λ k. leads keys k xs ≡ true) (o.total _ _ ea ec) l) t

  pub taken_sorted : (k : K) (xs : List R) → Sorted keys xs → Sorted keys (taken keys k xs)
  taken_sorted k [] s = refl
  taken_sorted k (x ∷ xs) s =
      let p = and_parts (leads keys (keys.key x) xs) (sorted keys xs) s in
      go (keys.before (keys.key x) k) (keys.before k (keys.key x)) p.0 p.1 (taken_sorted k xs p.1)
    where
      go : (a c : Bool) → leads keys (keys.key x) xs ≡ true → Sorted keys xs → Sorted keys (taken keys k xs) → Sorted keys (cond a (x ∷ taken keys k xs) (cond c (x ∷ xs) xs))
      go true c l t more = and_from _ _ (leads_taken (keys.key x) k xs l) more
      go false true l t more = and_from _ _ l t
      go false false l t more = t
