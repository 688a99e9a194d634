-- What the search found makes each way of an insertion and a removal end as promised. In what follows xs is the table, and its first n records are held, in the order of their keys.
use Rattle.std.proofs.Common.{◌≡◌, ℕ, ◌+◌, ◌-◌, ◌<◌, ◌≤◌, Bool, true, false, cond, List, ◌++◌, length, get_or, take, drop, set, is_some, Some, Ok, Err, Result, sym, refl, ap, ◌∙◌, subst, arith, length-set, rules}
use lib.Seq.{paste}
use Rattle.std.specs.List.{insert, remove}
use Rattle.std.specs.Result.{result_ok}
use Rattle.std.proofs.lemmas.List.{places, same_lists, take_at, drop_at, drop-set-lt, get_or-set_same, length-take-le, get_or-take}
use Rattle.std.proofs.lemmas.List.Edits.{length-insert, length-remove}
use Rattle.std.proofs.lemmas.Bool.{or_left, or_right, lt-ltb, cases_eq}
use Rattle.shelf.specs.Keys.{Keys, Sorted, rank, found, located}
use Rattle.shelf.specs.Changes.{Stored, Removed}
use Rattle.shelf.proofs.Finds.{found_known, stored_known, stored_unknown, taken_known}
use Rattle.shelf.proofs.Shifts.{opened, closed}

located_ok : (b : Bool) (at m : ℕ) → ◌≡◌ {A = Result ℕ ℕ} (Ok at) (cond b (Ok m) (Err m)) → (b ≡ true) × (at ≡ m)
located_ok true at m e = (refl, cc)
located_ok false at m e = cc

located_err : (b : Bool) (at m : ℕ) → ◌≡◌ {A = Result ℕ ℕ} (Err at) (cond b (Ok m) (Err m)) → (b ≡ false) × (at ≡ m)
located_err true at m e = cc
located_err false at m e = (refl, cc)

-- the record that was read is the one that is found
pub read_found : {R K : Type 0} (keys : Keys R K) (xs : List R) (k : K) (at : ℕ) (x : R) → x ≡ get_or xs at x → (answer : Result ℕ ℕ) → Some at ≡ result_ok answer → answer ≡ located keys k xs → Some x ≡ found keys k xs
read_found keys xs k at x read (Ok i) known is =
    let e : at ≡ i = cc in
    let f = located_ok _ _ _ is in
    ap Some (read ∙ ap (λ i. get_or xs i x) (e ∙ f.1)) ∙ sym (found_known keys k xs x f.0)
read_found keys xs k at x read (Err i) known is = cc

module _ {R K : Type 0} (keys : Keys R K) (xs : List R) (n m : ℕ) (few : n ≤ length xs) (s : Sorted keys (take n xs)) (level : m ≡ n) where
  -- the part that was searched is what is held
  abbrev Found : K → ℕ → Type 0
  Found k at = Sorted keys (take m xs) → Ok at ≡ located keys k (take m xs)

  abbrev Missed : K → ℕ → Type 0
  Missed k at = Sorted keys (take m xs) → Err at ≡ located keys k (take m xs)

  found_at : (k : K) (at : ℕ) → Found k at → (is_some (found keys k (take n xs)) ≡ true) × (at ≡ rank keys k (take n xs))
  found_at k at is = located_ok _ _ _ (subst (λ i. Sorted keys (take i xs) → Ok at ≡ located keys k (take i xs)) level is s)

  missed_at : (k : K) (at : ℕ) → Missed k at → (is_some (found keys k (take n xs)) ≡ false) × (at ≡ rank keys k (take n xs))
  missed_at k at is = located_err _ _ _ (subst (λ i. Sorted keys (take i xs) → Err at ≡ located keys k (take i xs)) level is s)

  held_length : length (take n xs) ≡ n
  held_length = length-take-le n xs few

  searched_length : length (take m xs) ≡ n
  searched_length = ap (λ i. length (take i xs)) level ∙ held_length

  -- over the record of the same key
  pub written : (r : R) (k : K) (at : ℕ) → k ≡ keys.key r → at < length (take m xs) → Found k at → Stored keys r n xs (set xs at r) n
  written r k at ek l is =
      let b : at < n = omega (arith, searched_length) in
      record {
        few = simp length-set few;
        free = drop-set-lt n xs at r b;
        room = or_left _ _ (subst (λ v. is_some (found keys v (take n xs)) ≡ true) ek (found_at k at is).0);
        held =
            let f = subst (λ v. (is_some (found keys v (take n xs)) ≡ true) × (at ≡ rank keys v (take n xs))) ek (found_at k at is) in
            taken_set b ∙ ap (λ i. set (take n xs) i r) f.1 ∙ sym (stored_known keys r (take n xs) f.0);
      }
    where
      taken_set : at < n → take n (set xs at r) ≡ set (take n xs) at r
      taken_set b = same_lists _ _ (search (rules, places)) (λ i d h. let e = cases_eq i at in grind (arith, places, get_or-set_same))

  -- at the place of a new key
  pub added : (r : R) (k : K) (at : ℕ) (ys : List R) → k ≡ keys.key r → at ≤ length (take m xs) → n < length xs → ys ≡ paste xs (at + 1) (drop at xs) (n - at) → Missed k at → Stored keys r n xs (set ys at r) (n + 1)
  added r k at ys ek l room e is =
      let b : at ≤ n = omega (arith, searched_length) in
      let whole : set ys at r ≡ insert (take n xs) at r ++ drop (n + 1) xs = ap (λ v. set v at r) e ∙ opened xs n at r b room in
      let long : length (insert (take n xs) at r) ≡ n + 1 = length-insert (take n xs) at r (omega (arith, held_length)) ∙ ap (λ i. i + 1) held_length in
      record {
        few = let size : length (set ys at r) ≡ length xs = length-set ys at r ∙ ap length e ∙ search (rules, places) in omega arith;
        free = ap (λ v. drop (n + 1) v) whole ∙ drop_at _ _ (n + 1) long;
        room = or_right _ _ (lt-ltb (length (take n xs)) (length xs) (omega (arith, held_length)));
        held =
            let f = subst (λ v. (is_some (found keys v (take n xs)) ≡ false) × (at ≡ rank keys v (take n xs))) ek (missed_at k at is) in
            ap (λ v. take (n + 1) v) whole ∙ take_at _ _ (n + 1) long ∙ ap (λ i. insert (take n xs) i r) f.1 ∙ sym (stored_unknown keys r (take n xs) f.0);
      }

  -- the record of a known key
  pub gone : (k : K) (at : ℕ) (x : R) (ys : List R) → at < length (take m xs) → x ≡ get_or xs at x → ys ≡ paste xs at (drop (at + 1) xs) (n - (at + 1)) → Found k at → Removed keys k n xs ys x
  gone k at x ys l read e is =
      let b : at < n = omega (arith, searched_length) in
      let whole : ys ≡ remove (take n xs) at ++ drop (n - 1) xs = e ∙ closed xs n at b few in
      let long : length (remove (take n xs) at) ≡ n - 1 = omega (arith, length-remove (take n xs) at (omega (arith, held_length)), held_length) in
      record {
        some = omega arith;
        free = ap (λ v. drop (n - 1) v) whole ∙ drop_at _ _ (n - 1) long;
        known =
            let f = found_at k at is in
            found_known keys k (take n xs) x f.0 ∙ ap Some (ap (λ i. get_or (take n xs) i x) (sym f.1) ∙ get_or-take n xs at x b ∙ sym read);
        held =
            let f = found_at k at is in
            ap (λ v. take (n - 1) v) whole ∙ take_at _ _ (n - 1) long ∙ ap (λ i. remove (take n xs) i) f.1 ∙ sym (taken_known keys k (take n xs) f.0);
      }
