-- What the shelf's insertion of a new name does to the book.
use Rattle.std.proofs.Common.{◌≡◌, ℕ, ◌+◌, ◌<◌, ◌≤◌, min, Bool, true, false, cond, not, ltb, ◌⊎◌, List, length, is_some, Some, None, Option, sym, refl, ap, ◌∙◌, subst, inl, inr, arith}
use Rattle.std.proofs.lemmas.Bool.{and_from, and_right, lt-ltb, le-ltb, ltb-true, ltb-false, or_parts, or_cases, both_ways}
use Rattle.shelf.specs.Changes.{fits}
use Rattle.shelf.specs.Held.{insert-held}
use Rattle.shelf.specs.Keys.{Sorted, found, stored}
use Rattle.shelf.proofs.Lookups.{found_stored, found_stored_other}
use Rattle.shelf.proofs.Sizes.{length_stored_unknown}
use Rattle.dyes.specs.declared.name.DyeName.{DyeName}
use Rattle.dyes.specs.declared.record.DyeRecord.{DyeRecord}
use Rattle.dyes.specs.Book.{Book, gains_if, After}
use Rattle.dyes.specs.Inks.{Numbered, Each}
use Rattle.dyes.specs.Records.{dye_keys}
use Rattle.dyes.specs.Shelves.{ink_in, records_book}
use Rattle.dyes.proofs.Numbers.{numbered_stored, each_stored}
use Rattle.dyes.specs.Ordering.{names_ordered}

-- what is held after the insertion of a name, on a table of m
pub record Adds (before : Book) (name : DyeName) (after : List DyeRecord) (m : ℕ) : Type 0 where
  pub book : After before name (records_book after m)
  pub numbered : Numbered after
  pub each : Each after
  pub few : length after ≤ 15

-- a name that is not there has no record
unknown_if : (o : Option DyeRecord) → ink_in o ≡ None → is_some o ≡ false
unknown_if (Some r) h = cc
unknown_if None h = refl

module _ (rs : List DyeRecord) (n : ℕ) (s : Sorted dye_keys rs) (h : Numbered rs) (e : Each rs) (name : DyeName) (new : DyeRecord) (named : new.name ≡ name) (next : new.ink ≡ length rs + 1) (w : (records_book rs n).ink name ≡ None) (l : length rs < 15) where
  abbrev here : Book
  here = records_book rs n

  unknown : is_some (found dye_keys new.name rs) ≡ false
  unknown = unknown_if (found dye_keys new.name rs) (ap (λ (m : DyeName). here.ink m) named ∙ w)

  stays : fits dye_keys n new rs ≡ false → (m : ℕ) → m ≡ n → Adds here name rs m
  stays closed m same =
      let full : here.room ≤ here.count = omega (arith, ltb-false (length rs) n (or_parts (is_some (found dye_keys new.name rs)) (ltb (length rs) n) closed).1) in
      record {
        book = subst (λ (b : Bool). gains_if b here name (records_book rs m)) (sym (and_right (not (is_some (here.ink name))) _ (le-ltb here.count here.room full))) (ap (λ (k : ℕ). records_book rs k) same);
        numbered = h;
        each = e;
        few = omega arith;
      }

  went_in : fits dye_keys n new rs ≡ true → (m : ℕ) → m ≡ n → Adds here name (stored dye_keys new rs) m
  went_in open' m same =
      let free : length rs < n = room_left (or_cases _ _ open') in
      let room : here.count < here.room = omega arith in
      let long : length (stored dye_keys new rs) ≡ length rs + 1 = length_stored_unknown dye_keys new rs unknown in
      record {
        book = subst (λ (b : Bool). gains_if b here name (records_book (stored dye_keys new rs) m)) (sym (and_from _ _ (ap (λ (o : Option ℕ). not (is_some o)) w) (lt-ltb here.count here.room room))) (record {
          ink = ap (λ (k : DyeName). ink_in (found dye_keys k (stored dye_keys new rs))) (sym named) ∙ ap ink_in (found_stored dye_keys names_ordered new rs) ∙ ap (λ (k : ℕ). Some k) next;
          others = λ k ne. ap ink_in (found_stored_other dye_keys names_ordered k new rs (λ q. ne (q ∙ named)) s);
          count = long;
          room = ap (λ (k : ℕ). min k 15) same;
        });
        numbered = numbered_stored new rs next unknown h;
        each = each_stored new rs next unknown e;
        few = omega arith;
      }
    where
      room_left : (is_some (found dye_keys new.name rs) ≡ true) ⊎ (ltb (length rs) n ≡ true) → length rs < n
      room_left (inl t) = absurd (both_ways _ unknown t)
      room_left (inr t) = ltb-true (length rs) n t

  pub adds : (after : List DyeRecord) (m : ℕ) → after ≡ insert-held dye_keys n new rs → m ≡ n → Adds here name after m
  adds after m is same = subst (λ (xs : List DyeRecord). Adds here name xs m) (sym is) (go (fits dye_keys n new rs) refl)
    where
      go : (b : Bool) → fits dye_keys n new rs ≡ b → Adds here name (cond b (stored dye_keys new rs) rs) m
      go true t = went_in t m same
      go false t = stays t m same
