-- Where a search ends, by how the keys of the records stand to a key.
use Rattle.std.proofs.Common.{◌≡◌, ℕ, zero, suc, Bool, ◌<◌, ◌≤◌, true, false, ◌⊎◌, List, [], ◌∷◌, length, get_or, is_some, Ok, Err, Result, cond, refl, sym, ap, ◌∙◌, inl, inr, zero-le, arith}
use Rattle.std.proofs.lemmas.Bool.{cond-true, cond-false, cases_Bool, cases_eq, and_parts, both_ways}
use Rattle.std.specs.List.{HoldsAt}
use Rattle.std.specs.List.Sorted.{IsPartitionedBy, IsPartitionPoint, IsBinarySearchResult}
use Rattle.std.specs.Ordering.{ordering_index}
use Rattle.std.specs.Result.{MatchResult}
use Rattle.std.specs.declared.cmp.Ordering.{Ordering}
use Rattle.std.specs.declared.cmp.Ordering.TheVariants.{Less, Equal, Greater}
use Rattle.shelf.specs.Keys.{Keys, TotalOrder, leads, sorted, Sorted, rank, found, located}

module _ {R K : Type 0} (keys : Keys R K) where
  -- a key that is before all is before each
  leads_at : (k : K) (xs : List R) (i : ℕ) (d : R) → leads keys k xs ≡ true → i < length xs → keys.before k (keys.key (get_or xs i d)) ≡ true
  leads_at k [] i d h l = absurd (omega arith)
  leads_at k (x ∷ xs) zero d h l = (and_parts _ _ h).0
  leads_at k (x ∷ xs) (suc i) d h l = leads_at k xs i d (and_parts _ _ h).1 (omega arith)

  -- in a sorted list, each key is before the later ones
  sorted_before : (xs : List R) (i j : ℕ) (d : R) → Sorted keys xs → i < j → j < length xs → keys.before (keys.key (get_or xs i d)) (keys.key (get_or xs j d)) ≡ true
  sorted_before [] i j d s l m = absurd (omega arith)
  sorted_before (x ∷ xs) i zero d s l m = absurd (omega arith)
  sorted_before (x ∷ xs) zero (suc j) d s l m = leads_at (keys.key x) xs j d (and_parts (leads keys (keys.key x) xs) (sorted keys xs) s).0 (omega arith)
  sorted_before (x ∷ xs) (suc i) (suc j) d s l m = sorted_before xs i j d (and_parts (leads keys (keys.key x) xs) (sorted keys xs) s).1 (omega arith) (omega arith)

  rank_more : (k : K) (x : R) (xs : List R) → keys.before (keys.key x) k ≡ true → rank keys k (x ∷ xs) ≡ suc (rank keys k xs)
  rank_more k x xs h = cond-true _ _ _ h

  rank_none : (k : K) (x : R) (xs : List R) → keys.before (keys.key x) k ≡ false → rank keys k (x ∷ xs) ≡ 0
  rank_none k x xs h = cond-false _ _ _ h

  pub rank_most : (k : K) (xs : List R) → rank keys k xs ≤ length xs
  rank_most k [] = zero-le
  rank_most k (x ∷ xs) = go (rank_most k xs) (cases_Bool (keys.before (keys.key x) k))
    where
      go : rank keys k xs ≤ length xs → (keys.before (keys.key x) k ≡ true) ⊎ (keys.before (keys.key x) k ≡ false) → rank keys k (x ∷ xs) ≤ suc (length xs)
      go b (inl t) = omega (arith, rank_more k x xs t)
      go b (inr t) = omega (arith, rank_none k x xs t)

  -- the records whose keys are before k are those below its rank
  pub point_rank : (k : K) (xs : List R) (i : ℕ) → i ≤ length xs → IsPartitionPoint (λ x. keys.before (keys.key x) k ≡ true) (λ x. keys.before (keys.key x) k ≡ false) xs i → i ≡ rank keys k xs
  point_rank k [] i l p = omega arith
  point_rank k (x ∷ xs) zero l p = sym (rank_none k x xs (p.1 0 x zero-le (omega arith)))
  point_rank k (x ∷ xs) (suc i) l p = ap suc (point_rank k xs i (omega arith) ((λ n d a b. p.0 (suc n) d zero-le (omega arith)), (λ n d a b. p.1 (suc n) d (omega arith) (omega arith)))) ∙ sym (rank_more k x xs (p.0 0 x zero-le (omega arith)))

  -- how a key stands to another, as a search asks: whether it is after, and then whether it is before
  abbrev pub standing : K → K → Ordering
  standing j k = cond (keys.before k j) Greater (cond (keys.before j k) Less Equal)

  module _ (o : TotalOrder keys) where
    -- a key before another is not after it
    pub after_not : (j k : K) → keys.before j k ≡ true → keys.before k j ≡ false
    after_not j k h = go (cases_Bool (keys.before k j))
      where
        go : (keys.before k j ≡ true) ⊎ (keys.before k j ≡ false) → keys.before k j ≡ false
        go (inl t) = absurd (both_ways _ (o.irreflexive j) (o.transitive _ _ _ h t))
        go (inr t) = t

    pub partitioned : (k : K) (xs : List R) → Sorted keys xs → IsPartitionedBy (λ x. keys.before (keys.key x) k) xs
    partitioned k xs s i j d l m t = go (cases_eq i j)
      where
        go : (i ≡ j) ⊎ (i ≡ j → ⊥) → keys.before (keys.key (get_or xs i d)) k ≡ true
        go (inl e) = ap (λ n. keys.before (keys.key (get_or xs n d)) k) e ∙ t
        go (inr e) = o.transitive _ _ _ (sorted_before xs i j d s (omega arith) m) t

    -- the record with the key k is the one that is found, at the rank of k
    known_at : (k : K) (xs : List R) (i : ℕ) → Sorted keys xs → i < length xs → HoldsAt (λ x. (keys.before (keys.key x) k ≡ false) × (keys.before k (keys.key x) ≡ false)) xs i → (is_some (found keys k xs) ≡ true) × (i ≡ rank keys k xs)
    known_at k [] i s l h = absurd (omega arith)
    known_at k (x ∷ xs) zero s l h = let t = h x in (ap is_some (cond-false _ _ _ t.0 ∙ cond-false _ _ _ t.1), sym (rank_none k x xs t.0))
    known_at k (x ∷ xs) (suc i) s l h =
        let t = h x in
        let p = and_parts (leads keys (keys.key x) xs) (sorted keys xs) s in
        let e : keys.key (get_or xs i x) ≡ k = o.total _ _ t.0 t.1 in
        let b : keys.before (keys.key x) k ≡ true = ap (keys.before (keys.key x)) (sym e) ∙ leads_at (keys.key x) xs i x p.0 (omega arith) in
        let more = known_at k xs i p.1 (omega arith) (λ d. h d) in
        (ap is_some (cond-true _ _ _ b) ∙ more.0, ap suc more.1 ∙ sym (rank_more k x xs b))

    -- between the records with keys before k and those with keys after k there is none with the key k
    unknown_at : (k : K) (xs : List R) (i : ℕ) → i ≤ length xs → IsPartitionPoint (λ x. keys.before (keys.key x) k ≡ true) (λ x. keys.before k (keys.key x) ≡ true) xs i → (is_some (found keys k xs) ≡ false) × (i ≡ rank keys k xs)
    unknown_at k [] i l p = (refl, omega arith)
    unknown_at k (x ∷ xs) zero l p =
        let t : keys.before k (keys.key x) ≡ true = p.1 0 x zero-le (omega arith) in
        let b = after_not _ _ t in
        (ap is_some (cond-false _ _ _ b ∙ cond-true _ _ _ t), sym (rank_none k x xs b))
    unknown_at k (x ∷ xs) (suc i) l p =
        let b : keys.before (keys.key x) k ≡ true = p.0 0 x zero-le (omega arith) in
        let more = unknown_at k xs i (omega arith) ((λ n d a b. p.0 (suc n) d zero-le (omega arith)), (λ n d a b. p.1 (suc n) d (omega arith) (omega arith))) in
        (ap is_some (cond-true _ _ _ b) ∙ more.0, ap suc more.1 ∙ sym (rank_more k x xs b))

    -- what a standing says of the two keys
    stands_before : (a b : Bool) → cond a Greater (cond b Less Equal) ≡ Less → b ≡ true
    stands_before true b e = cc
    stands_before false true e = refl
    stands_before false false e = cc

    stands_after : (a b : Bool) → cond a Greater (cond b Less Equal) ≡ Greater → a ≡ true
    stands_after true b e = refl
    stands_after false true e = cc
    stands_after false false e = cc

    stands_level : (a b : Bool) → cond a Greater (cond b Less Equal) ≡ Equal → (b ≡ false) × (a ≡ false)
    stands_level true b e = cc
    stands_level false true e = cc
    stands_level false false e = (refl, refl)

    highest : (r : Ordering) → ordering_index r ≤ 2
    highest Less = omega arith
    highest Equal = omega arith
    highest Greater = omega arith

    -- what is before a key that is not after k is before k
    before_as : (j m k : K) → keys.before j m ≡ true → keys.before k m ≡ false → keys.before j k ≡ true
    before_as j m k h f = go (cases_Bool (keys.before m k))
      where
        go : (keys.before m k ≡ true) ⊎ (keys.before m k ≡ false) → keys.before j k ≡ true
        go (inl t) = o.transitive _ _ _ h t
        go (inr t) = ap (keys.before j) (sym (o.total _ _ t f)) ∙ h

    -- a later key stands no lower to k
    rises : (j m k : K) → keys.before j m ≡ true → ordering_index (standing j k) ≤ ordering_index (standing m k)
    rises j m k h = go (cases_Bool (keys.before k m))
      where
        go : (keys.before k m ≡ true) ⊎ (keys.before k m ≡ false) → ordering_index (standing j k) ≤ ordering_index (standing m k)
        go (inl t) = omega (arith, highest (standing j k), ap ordering_index (cond-true (keys.before k m) Greater (cond (keys.before m k) Less Equal) t))
        go (inr t) =
            let b = before_as j m k h t in
            omega (arith, ap ordering_index (cond-false (keys.before k j) Greater (cond (keys.before j k) Less Equal) (after_not j k b) ∙ cond-true (keys.before j k) Less Equal b))

    rising : (k : K) (xs : List R) → Sorted keys xs → (i j : ℕ) (d : R) → i ≤ j → j < length xs → ordering_index (standing (keys.key (get_or xs i d)) k) ≤ ordering_index (standing (keys.key (get_or xs j d)) k)
    rising k xs s i j d l m = go (cases_eq i j)
      where
        go : (i ≡ j) ⊎ (i ≡ j → ⊥) → ordering_index (standing (keys.key (get_or xs i d)) k) ≤ ordering_index (standing (keys.key (get_or xs j d)) k)
        go (inl e) = omega (arith, ap (λ n. ordering_index (standing (keys.key (get_or xs n d)) k)) e)
        go (inr e) = rises _ _ _ (sorted_before xs i j d s (omega arith) m)

    -- what a binary search for the key k answers
    pub searched : (k : K) (xs : List R) (answer : Result ℕ ℕ) → MatchResult answer (λ i. i < length xs) (λ i. i ≤ length xs) → IsBinarySearchResult (λ x. standing (keys.key x) k) xs answer → Sorted keys xs → answer ≡ located keys k xs
    searched k xs (Ok i) w h s =
        let a = known_at k xs i s w (λ d. stands_level _ _ (h d)) in
        ap Ok a.1 ∙ sym (cond-true _ _ _ a.0)
    searched k xs (Err i) w h s =
        let p = h (rising k xs s) in
        let a = unknown_at k xs i w ((λ n d a b. stands_before _ _ (p.0 n d a b)), (λ n d a b. stands_after _ _ (p.1 n d a b))) in
        ap Err a.1 ∙ sym (cond-false _ _ _ a.0)
