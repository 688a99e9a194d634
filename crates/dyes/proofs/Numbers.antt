-- The inks of a list of dye records: what their tests say, and that they hold once a record with the next ink is stored.
use Rattle.std.proofs.Common.{◌≡◌, ℕ, ◌+◌, ◌<◌, ◌≤◌, Bool, true, false, cond, not, eqb, ◌⊎◌, List, [], ◌∷◌, length, is_some, Some, None, Option, sym, refl, ap, ◌∙◌, subst, inl, inr, arith}
use Rattle.std.specs.List.{list_all, AllByRecursion as All}
use Rattle.std.proofs.ByRecursion.{All-weaker}
use Rattle.std.proofs.lemmas.Bool.{and_parts, and_from, eqb-true, eq-eqb, ne_eqb, cases_lt, cond-true, cond-false, not-true, not_from_false, both_ways}
use Rattle.std.proofs.lemmas.Bool.Decides.{nat_tests}
use Rattle.shelf.specs.Keys.{found, stored}
use Rattle.shelf.proofs.Sizes.{all_stored, length_stored_unknown}
use Rattle.dyes.specs.declared.record.DyeRecord.{DyeRecord}
use Rattle.dyes.specs.Inks.{by_ink, among, fresh, apart, Numbered, Each}
use Rattle.dyes.specs.Records.{dye_keys}

-- a test that all pass
pub all_of : {X : Type 0} (p : X → Bool) (xs : List X) → list_all p xs ≡ true → All (λ x. p x ≡ true) xs
all_of p [] h = tt
all_of p (x ∷ xs) h = let q = and_parts (p x) (list_all p xs) h in (q.0, all_of p xs q.1)

pub of_all : {X : Type 0} (p : X → Bool) (xs : List X) → All (λ x. p x ≡ true) xs → list_all p xs ≡ true
of_all p [] a = refl
of_all p (x ∷ xs) a = and_from _ _ a.0 (of_all p xs a.1)

abbrev pub Among : ℕ → DyeRecord → Type 0
Among n r = (0 < r.ink) × (r.ink ≤ n)

among_is : (n : ℕ) (r : DyeRecord) → among n r ≡ true → Among n r
among_is n r h = (grind (arith, nat_tests), grind (arith, nat_tests))

is_among : (n : ℕ) (r : DyeRecord) → Among n r → among n r ≡ true
is_among n r a = grind (arith, nat_tests)

pub all_among : (rs : List DyeRecord) → Numbered rs → All (Among (length rs)) rs
all_among rs h = All-weaker (λ r. among (length rs) r ≡ true) (Among (length rs)) (among_is (length rs)) rs (all_of (among (length rs)) rs (and_parts _ _ h).0)

pub by_ink_is : (P : DyeRecord → Type 0) (k : ℕ) (rs : List DyeRecord) (r : DyeRecord) → All P rs → by_ink k rs ≡ Some r → (r.ink ≡ k) × P r
by_ink_is P k [] r a h = cc
by_ink_is P k (x ∷ xs) r a h = go (eqb x.ink k) refl (by_ink_is P k xs r a.1) h
  where
    go : (t : Bool) → eqb x.ink k ≡ t → (by_ink k xs ≡ Some r → (r.ink ≡ k) × P r) → cond t (Some x) (by_ink k xs) ≡ Some r → (r.ink ≡ k) × P r
    go true e more h = let same : x ≡ r = cc in subst (λ (v : DyeRecord). (v.ink ≡ k) × P v) same (eqb-true x.ink k e, a.0)
    go false e more h = more h

-- inks that no two share: each record is the first with its ink
pub all_by_ink : (rs : List DyeRecord) → apart rs ≡ true → All (λ r. by_ink r.ink rs ≡ Some r) rs
all_by_ink [] h = tt
all_by_ink (x ∷ xs) h =
    let p = and_parts (fresh x.ink xs) (apart xs) h in
    (cond-true (eqb x.ink x.ink) _ _ (eq-eqb x.ink x.ink refl), past xs (all_of (λ r. not (eqb r.ink x.ink)) xs p.0) (all_by_ink xs p.1))
  where
    other : (y : DyeRecord) → not (eqb y.ink x.ink) ≡ true → eqb x.ink y.ink ≡ false
    other y h = grind (arith, nat_tests)

    past : (ys : List DyeRecord) → All (λ y. not (eqb y.ink x.ink) ≡ true) ys → All (λ y. by_ink y.ink xs ≡ Some y) ys → All (λ y. by_ink y.ink (x ∷ xs) ≡ Some y) ys
    past [] a b = tt
    past (y ∷ ys) a b = (cond-false (eqb x.ink y.ink) _ _ (other y a.0) ∙ b.0, past ys a.1 b.1)

-- ---- a record of a new name is stored

fresh_stored : (k : ℕ) (r : DyeRecord) (rs : List DyeRecord) → (r.ink ≡ k → ⊥) → fresh k rs ≡ true → fresh k (stored dye_keys r rs) ≡ true
fresh_stored k r rs ne h = of_all _ _ (all_stored dye_keys (λ x. not (eqb x.ink k) ≡ true) r rs (not_from_false _ (ne_eqb r.ink k ne)) (all_of _ rs h))

apart_stored : (r : DyeRecord) (rs : List DyeRecord) → fresh r.ink rs ≡ true → apart rs ≡ true → apart (stored dye_keys r rs) ≡ true
apart_stored r [] f h = refl
apart_stored r (x ∷ xs) f h =
    let p = and_parts (fresh x.ink xs) (apart xs) h in
    let q = and_parts (not (eqb x.ink r.ink)) (fresh r.ink xs) f in
    go (dye_keys.before x.name r.name) (dye_keys.before r.name x.name) (λ e. both_ways _ (not-true _ q.0) (eq-eqb x.ink r.ink (sym e))) p.0 p.1 q.1 (apart_stored r xs q.1 p.1)
  where
    go : (a b : Bool) → (r.ink ≡ x.ink → ⊥) → fresh x.ink xs ≡ true → apart xs ≡ true → fresh r.ink xs ≡ true → apart (stored dye_keys r xs) ≡ true → apart (cond a (x ∷ stored dye_keys r xs) (cond b (r ∷ x ∷ xs) (r ∷ xs))) ≡ true
    go true b ne fx ax fr more = and_from _ _ (fresh_stored x.ink r xs ne fx) more
    go false true ne fx ax fr more = and_from _ _ f (and_from _ _ fx ax)
    go false false ne fx ax fr more = and_from _ _ fr ax

-- the new ink is there, and no old one is lost
by_ink_new : (r : DyeRecord) (rs : List DyeRecord) → is_some (by_ink r.ink (stored dye_keys r rs)) ≡ true
by_ink_new r [] = ap is_some (cond-true (eqb r.ink r.ink) (Some r) None (eq-eqb r.ink r.ink refl))
by_ink_new r (x ∷ xs) = go (dye_keys.before x.name r.name) (dye_keys.before r.name x.name) (by_ink_new r xs)
  where
    self : (ys : List DyeRecord) → is_some (by_ink r.ink (r ∷ ys)) ≡ true
    self ys = ap is_some (cond-true (eqb r.ink r.ink) (Some r) (by_ink r.ink ys) (eq-eqb r.ink r.ink refl))

    on : (t : Bool) (o : Option DyeRecord) → is_some o ≡ true → is_some (cond t (Some x) o) ≡ true
    on true o h = refl
    on false o h = h

    go : (a b : Bool) → is_some (by_ink r.ink (stored dye_keys r xs)) ≡ true → is_some (by_ink r.ink (cond a (x ∷ stored dye_keys r xs) (cond b (r ∷ x ∷ xs) (r ∷ xs)))) ≡ true
    go true b more = on (eqb x.ink r.ink) (by_ink r.ink (stored dye_keys r xs)) more
    go false true more = self (x ∷ xs)
    go false false more = self xs

by_ink_old : (k : ℕ) (r : DyeRecord) (rs : List DyeRecord) → is_some (found dye_keys r.name rs) ≡ false → is_some (by_ink k rs) ≡ true → is_some (by_ink k (stored dye_keys r rs)) ≡ true
by_ink_old k r [] u h = cc
by_ink_old k r (x ∷ xs) u h = go (dye_keys.before x.name r.name) (dye_keys.before r.name x.name) (by_ink_old k r xs) u h
  where
    on : (y : DyeRecord) (t : Bool) (o : Option DyeRecord) → is_some o ≡ true → is_some (cond t (Some y) o) ≡ true
    on y true o h = refl
    on y false o h = h

    step : (t : Bool) (o q : Option DyeRecord) → (is_some o ≡ true → is_some q ≡ true) → is_some (cond t (Some x) o) ≡ true → is_some (cond t (Some x) q) ≡ true
    step true o q f h = refl
    step false o q f h = f h

    go : (a b : Bool) → (is_some (found dye_keys r.name xs) ≡ false → is_some (by_ink k xs) ≡ true → is_some (by_ink k (stored dye_keys r xs)) ≡ true) → is_some (cond a (found dye_keys r.name xs) (cond b None (Some x))) ≡ false → is_some (by_ink k (x ∷ xs)) ≡ true → is_some (by_ink k (cond a (x ∷ stored dye_keys r xs) (cond b (r ∷ x ∷ xs) (r ∷ xs)))) ≡ true
    go true b more u h = step (eqb x.ink k) (by_ink k xs) (by_ink k (stored dye_keys r xs)) (more u) h
    go false true more u h = on r (eqb r.ink k) (by_ink k (x ∷ xs)) h
    go false false more u h = cc

module _ (r : DyeRecord) (rs : List DyeRecord) (next : r.ink ≡ length rs + 1) (new : is_some (found dye_keys r.name rs) ≡ false) where
  grown : length (stored dye_keys r rs) ≡ length rs + 1
  grown = length_stored_unknown dye_keys r rs new

  pub numbered_stored : Numbered rs → Numbered (stored dye_keys r rs)
  numbered_stored h =
      let a : All (Among (length rs)) rs = all_among rs h in
      let more : All (λ x. among (length (stored dye_keys r rs)) x ≡ true) (stored dye_keys r rs) = all_stored dye_keys (λ x. among (length (stored dye_keys r rs)) x ≡ true) r rs (is_among _ r (omega (arith, grown), omega (arith, grown))) (All-weaker (Among (length rs)) (λ x. among (length (stored dye_keys r rs)) x ≡ true) (λ x b. is_among _ x (b.0, later x b)) rs a) in
      let unused : fresh r.ink rs ≡ true = of_all _ rs (All-weaker (Among (length rs)) (λ x. not (eqb x.ink r.ink) ≡ true) (λ x b. not_from_false _ (ne_eqb x.ink r.ink (below x b))) rs a) in
      and_from _ _ (of_all _ _ more) (apart_stored r rs unused (and_parts _ _ h).1)
    where
      later : (x : DyeRecord) → Among (length rs) x → x.ink ≤ length (stored dye_keys r rs)
      later x b = omega (arith, grown, b.1)

      below : (x : DyeRecord) → Among (length rs) x → x.ink ≡ r.ink → ⊥
      below x b e = omega (arith, next, b.1)

  pub each_stored : Each rs → Each (stored dye_keys r rs)
  each_stored h k b = go (cases_lt (length rs) k)
    where
      go : (length rs < k) ⊎ (k ≤ length rs) → is_some (by_ink k (stored dye_keys r rs)) ≡ true
      go (inl l) =
          let e : r.ink ≡ k = omega (arith, grown, next, b.1) in
          subst (λ i. is_some (by_ink i (stored dye_keys r rs)) ≡ true) e (by_ink_new r rs)
      go (inr l) = by_ink_old k r rs new (h k (b.0, l))
