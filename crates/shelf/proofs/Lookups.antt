-- A sorted list is a map: what is found after a record is stored or taken. The tests are a, whether the first key is before the given one, and b, whether it is after.
use Rattle.std.proofs.Common.{◌≡◌, Bool, true, false, cond, ◌&&◌, ◌⊎◌, List, [], ◌∷◌, Some, None, Option, sym, refl, ap, ◌∙◌, subst, inl, inr}
use Rattle.std.specs.List.{AllByRecursion as All}
use Rattle.std.proofs.lemmas.Bool.{cond-true, cond-false, cases_Bool, and_parts}
use Rattle.shelf.specs.Keys.{Keys, TotalOrder, leads, sorted, Sorted, found, stored, taken}
use Rattle.shelf.proofs.Ranks.{after_not}
use Rattle.shelf.proofs.Sorting.{leads_before}

module _ {R K : Type 0} (keys : Keys R K) (o : TotalOrder keys) where
  -- the head is passed, missed or met
  pub found_past : (k : K) (x : R) (xs : List R) → keys.before (keys.key x) k ≡ true → found keys k (x ∷ xs) ≡ found keys k xs
  found_past k x xs h = cond-true _ _ _ h

  pub found_none : (k : K) (x : R) (xs : List R) → keys.before k (keys.key x) ≡ true → found keys k (x ∷ xs) ≡ None
  found_none k x xs h = cond-false _ _ _ (after_not keys o _ _ h) ∙ cond-true _ _ _ h

  pub found_head : (x : R) (xs : List R) → found keys (keys.key x) (x ∷ xs) ≡ Some x
  found_head x xs = cond-false _ _ _ (o.irreflexive (keys.key x)) ∙ cond-false _ _ _ (o.irreflexive (keys.key x))

  -- no record of a key that leads the list
  pub found_led : (k : K) (xs : List R) → leads keys k xs ≡ true → found keys k xs ≡ None
  found_led k [] h = refl
  found_led k (x ∷ xs) h = found_none k x xs (and_parts _ _ h).0

  -- of two keys that differ one is before the other
  pub apart : (j k : K) → (j ≡ k → ⊥) → (keys.before j k ≡ true) ⊎ (keys.before k j ≡ true)
  apart j k ne = go (cases_Bool (keys.before j k)) (cases_Bool (keys.before k j))
    where
      go : (keys.before j k ≡ true) ⊎ (keys.before j k ≡ false) → (keys.before k j ≡ true) ⊎ (keys.before k j ≡ false) → (keys.before j k ≡ true) ⊎ (keys.before k j ≡ true)
      go (inl a) b = inl a
      go (inr a) (inl b) = inr b
      go (inr a) (inr b) = absurd (ne (o.total j k a b))

  pub found_stored : (r : R) (xs : List R) → found keys (keys.key r) (stored keys r xs) ≡ Some r
  found_stored r [] = found_head r []
  found_stored r (x ∷ xs) = go (keys.before (keys.key x) (keys.key r)) (keys.before (keys.key r) (keys.key x)) refl (found_stored r xs)
    where
      go : (a b : Bool) → keys.before (keys.key x) (keys.key r) ≡ a → found keys (keys.key r) (stored keys r xs) ≡ Some r → found keys (keys.key r) (cond a (x ∷ stored keys r xs) (cond b (r ∷ x ∷ xs) (r ∷ xs))) ≡ Some r
      go true b e more = found_past (keys.key r) x (stored keys r xs) e ∙ more
      go false true e more = found_head r (x ∷ xs)
      go false false e more = found_head r xs

  -- a record that goes in front of a list leaves what is found of another key
  front_other : (k : K) (r : R) (xs : List R) → (k ≡ keys.key r → ⊥) → leads keys (keys.key r) xs ≡ true → found keys k (r ∷ xs) ≡ found keys k xs
  front_other k r xs ne h = go (apart k (keys.key r) ne)
    where
      go : (keys.before k (keys.key r) ≡ true) ⊎ (keys.before (keys.key r) k ≡ true) → found keys k (r ∷ xs) ≡ found keys k xs
      go (inl t) = found_none k r xs t ∙ sym (found_led k xs (leads_before keys o k (keys.key r) xs t h))
      go (inr t) = found_past k r xs t

  pub found_stored_other : (k : K) (r : R) (xs : List R) → (k ≡ keys.key r → ⊥) → Sorted keys xs → found keys k (stored keys r xs) ≡ found keys k xs
  found_stored_other k r [] ne s = front_other k r [] ne refl
  found_stored_other k r (x ∷ xs) ne s =
      let p = and_parts (leads keys (keys.key x) xs) (sorted keys xs) s in
      go (keys.before (keys.key x) (keys.key r)) (keys.before (keys.key r) (keys.key x)) refl refl p.0 (found_stored_other k r xs ne p.1)
    where
      go : (a b : Bool) → keys.before (keys.key x) (keys.key r) ≡ a → keys.before (keys.key r) (keys.key x) ≡ b → leads keys (keys.key x) xs ≡ true → found keys k (stored keys r xs) ≡ found keys k xs → found keys k (cond a (x ∷ stored keys r xs) (cond b (r ∷ x ∷ xs) (r ∷ xs))) ≡ found keys k (x ∷ xs)
      go true b ea eb l more = ap (λ (v : Option R). cond (keys.before (keys.key x) k) v (cond (keys.before k (keys.key x)) None (Some x))) more
      go false true ea eb l more = front_other k r (x ∷ xs) ne (and_from' eb l)
        where
          and_from' : keys.before (keys.key r) (keys.key x) ≡ true → leads keys (keys.key x) xs ≡ true → leads keys (keys.key r) (x ∷ xs) ≡ true
          and_from' e l = ap (λ (v : Bool). v && leads keys (keys.key r) xs) e ∙ leads_before keys o (keys.key r) (keys.key x) xs e l
      go false false ea eb l more =
          let same : keys.key x ≡ keys.key r = o.total _ _ ea eb in
          front_other k r xs ne (subst (λ j. leads keys j xs ≡ true) same l) ∙ sym (front_other k x xs (λ e. ne (e ∙ same)) l)

  pub found_taken : (k : K) (xs : List R) → Sorted keys xs → found keys k (taken keys k xs) ≡ None
  found_taken k [] s = refl
  found_taken k (x ∷ xs) s =
      let p = and_parts (leads keys (keys.key x) xs) (sorted keys xs) s in
      go (keys.before (keys.key x) k) (keys.before k (keys.key x)) refl refl p.0 (found_taken k xs p.1)
    where
      go : (a b : Bool) → keys.before (keys.key x) k ≡ a → keys.before k (keys.key x) ≡ b → leads keys (keys.key x) xs ≡ true → found keys k (taken keys k xs) ≡ None → found keys k (cond a (x ∷ taken keys k xs) (cond b (x ∷ xs) xs)) ≡ None
      go true b ea eb l more = found_past k x (taken keys k xs) ea ∙ more
      go false true ea eb l more = found_none k x xs eb
      go false false ea eb l more = found_led k xs (subst (λ j. leads keys j xs ≡ true) (o.total _ _ ea eb) l)

  pub found_taken_other : (j k : K) (xs : List R) → (j ≡ k → ⊥) → Sorted keys xs → found keys j (taken keys k xs) ≡ found keys j xs
  found_taken_other j k [] ne s = refl
  found_taken_other j k (x ∷ xs) ne s =
      let p = and_parts (leads keys (keys.key x) xs) (sorted keys xs) s in
      go (keys.before (keys.key x) k) (keys.before k (keys.key x)) refl refl p.0 (found_taken_other j k xs ne p.1)
    where
      go : (a b : Bool) → keys.before (keys.key x) k ≡ a → keys.before k (keys.key x) ≡ b → leads keys (keys.key x) xs ≡ true → found keys j (taken keys k xs) ≡ found keys j xs → found keys j (cond a (x ∷ taken keys k xs) (cond b (x ∷ xs) xs)) ≡ found keys j (x ∷ xs)
      go true b ea eb l more = ap (λ (v : Option R). cond (keys.before (keys.key x) j) v (cond (keys.before j (keys.key x)) None (Some x))) more
      go false true ea eb l more = refl
      go false false ea eb l more = sym (front_other j x xs (λ e. ne (e ∙ o.total _ _ ea eb)) l)

  -- the record that is found has the key, and what holds of all records holds of it
  pub found_is : (P : R → Type 0) (k : K) (xs : List R) (x : R) → All P xs → found keys k xs ≡ Some x → (keys.key x ≡ k) × P x
  found_is P k [] x a h = cc
  found_is P k (y ∷ ys) x a h = go (keys.before (keys.key y) k) (keys.before k (keys.key y)) refl refl (found_is P k ys x a.1) h
    where
      same : ◌≡◌ {A = Option R} (Some y) (Some x) → y ≡ x
      same e = cc

      go : (t b : Bool) → keys.before (keys.key y) k ≡ t → keys.before k (keys.key y) ≡ b → (found keys k ys ≡ Some x → (keys.key x ≡ k) × P x) → cond t (found keys k ys) (cond b None (Some y)) ≡ Some x → (keys.key x ≡ k) × P x
      go true b et eb more h = more h
      go false true et eb more h = cc
      go false false et eb more h =
          let e : y ≡ x = same h in
          (ap (λ (r : R). keys.key r) (sym e) ∙ o.total _ _ et eb, subst P e a.0)

  -- a key that leads the list is before each of its keys
  leads_all : (k : K) (xs : List R) → leads keys k xs ≡ true → All (λ y. keys.before k (keys.key y) ≡ true) xs
  leads_all k [] h = tt
  leads_all k (x ∷ xs) h =
      let p = and_parts (keys.before k (keys.key x)) (leads keys k xs) h in
      (p.0, leads_all k xs p.1)

  -- each record is found by its key
  pub all_found : (xs : List R) → Sorted keys xs → All (λ y. found keys (keys.key y) xs ≡ Some y) xs
  all_found [] s = tt
  all_found (x ∷ xs) s =
      let p = and_parts (leads keys (keys.key x) xs) (sorted keys xs) s in
      (found_head x xs, past xs (leads_all (keys.key x) xs p.0) (all_found xs p.1))
    where
      past : (ys : List R) → All (λ y. keys.before (keys.key x) (keys.key y) ≡ true) ys → All (λ y. found keys (keys.key y) xs ≡ Some y) ys → All (λ y. found keys (keys.key y) (x ∷ xs) ≡ Some y) ys
      past [] a b = tt
      past (y ∷ ys) a b = (found_past (keys.key y) x xs a.0 ∙ b.0, past ys a.1 b.1)
