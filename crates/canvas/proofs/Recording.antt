-- What storing and taking a record does to the board of the records.
use Rattle.std.proofs.Common.{◌≡◌, ℕ, ◌+◌, ◌<◌, Bool, true, false, cond, ltb, ◌⊎◌, List, length, is_some, Option, sym, ap, ◌∙◌, subst, inl, inr, arith}
use Rattle.std.proofs.lemmas.Bool.{cond-true, cond-false, or_cases, or_parts, both_ways, ltb-true, ltb-false}
use Rattle.std.proofs.lemmas.Bool.Decides.{nat_tests}
use Rattle.plane.specs.declared.cell.Cell.{Cell}
use Rattle.plane.specs.Cells.{same}
use Rattle.shelf.specs.Keys.{Sorted, found, stored, taken}
use Rattle.shelf.specs.Changes.{fits}
use Rattle.shelf.proofs.Finds.{taken_unknown}
use Rattle.shelf.proofs.Lookups.{found_stored, found_stored_other, found_taken, found_taken_other}
use Rattle.shelf.proofs.Sizes.{length_stored_known, length_stored_unknown, length_taken, all_stored, all_taken}
use Rattle.canvas.specs.declared.refusal.PutRefused.TheVariants.{Seats}
use Rattle.canvas.specs.Board.{Board, with_ink, held_after}
use Rattle.canvas.specs.Records.{keys, all_sound, ink_of, record-board}
use Rattle.canvas.proofs.Sameness.{Decided, same_decides}
use Rattle.canvas.proofs.Answering.{Refuses, Takes, refuses_seats, takes_held, takes_free}
use Rattle.canvas.proofs.Recorded.{cells_ordered, Sound, all_sound_is, is_all_sound, Told, found_sound}

-- the count once an ink has changed, where the old ink is none or some, and the new one
held_none : (old n : ℕ) → old ≡ 0 → n ≡ held_after old 0 n
held_none old n e = grind (arith, nat_tests)

held_more : (old new n : ℕ) → old ≡ 0 → 0 < new → n + 1 ≡ held_after old new n
held_more old new n e l = grind (arith, nat_tests)

held_same : (old new n : ℕ) → (old ≡ 0 → ⊥) → 0 < new → n ≡ held_after old new n
held_same old new n e l = grind (arith, nat_tests)

held_less : (old n m : ℕ) → (old ≡ 0 → ⊥) → m + 1 ≡ n → m ≡ held_after old 0 n
held_less old n m e l = grind (arith, nat_tests)

module _ {R : Type 0} (cell : R → Cell) (ink : R → ℕ) (frame : Cell → Bool) (rs : List R) (n : ℕ) (s : Sorted (keys cell ink frame) rs) (h : all_sound cell ink frame rs ≡ true) where
  abbrev here : Board
  here = record-board cell ink frame rs n

  abbrev look : Cell → Option R
  look p = found (keys cell ink frame) p rs

  -- a cell is bare and unknown, or held and known
  abbrev State : Cell → Type 0
  State p = ((here.inks p ≡ 0) × (is_some (look p) ≡ false)) ⊎ ((here.inks p ≡ 0 → ⊥) × (is_some (look p) ≡ true))

  pub state : (p : Cell) → State p
  state p = go (found_sound cell ink frame p rs (all_sound_is cell ink frame rs h))
    where
      some : (r : R) → here.inks p ≡ ink r → 0 < ink r → here.inks p ≡ 0 → ⊥
      some r e l z = omega arith

      go : Told cell ink frame p rs → State p
      go (inl e) = inl (ap (ink_of cell ink frame) e, ap is_some e)
      go (inr f) = inr (some f.0 (ap (ink_of cell ink frame) f.1) f.3.some, ap is_some f.1)

  -- ---- a record is stored

  module _ (r : R) (p : Cell) (at : cell r ≡ p) (good : Sound cell ink frame r) where
    abbrev after : List R
    after = stored (keys cell ink frame) r rs

    ink_after : (q : Cell) → Decided q p (same q p) → ink_of cell ink frame (found (keys cell ink frame) q after) ≡ cond (same q p) (ink r) (here.inks q)
    ink_after q (inl d) = ap (ink_of cell ink frame) (ap (λ (c : Cell). found (keys cell ink frame) c after) (d.1 ∙ sym at) ∙ found_stored (keys cell ink frame) (cells_ordered cell ink frame) r rs) ∙ sym (cond-true (same q p) _ _ d.0)
    ink_after q (inr d) = ap (ink_of cell ink frame) (found_stored_other (keys cell ink frame) (cells_ordered cell ink frame) q r rs (λ e. d.1 (e ∙ at)) s) ∙ sym (cond-false (same q p) _ _ d.0)

    count_after : State p → length after ≡ held_after (here.inks p) (ink r) (length rs)
    count_after (inl z) = length_stored_unknown (keys cell ink frame) r rs (ap (λ (c : Cell). is_some (look c)) at ∙ z.1) ∙ held_more (here.inks p) (ink r) (length rs) z.0 good.some
    count_after (inr z) = length_stored_known (keys cell ink frame) r rs (ap (λ (c : Cell). is_some (look c)) at ∙ z.1) ∙ held_same (here.inks p) (ink r) (length rs) z.0 good.some

    pub board_stored : record-board cell ink frame after n ≡ with_ink here p (ink r)
    board_stored =
        let count : length after ≡ held_after (here.inks p) (ink r) (length rs) = count_after (state p) in
        λ i. record { inks = λ q. ink_after q (same_decides q p) i; frame = frame; seats = n; held = count i }

    pub sound_stored : all_sound cell ink frame after ≡ true
    sound_stored = is_all_sound cell ink frame after (all_stored (keys cell ink frame) (Sound cell ink frame) r rs good (all_sound_is cell ink frame rs h))

    -- the shelf has room exactly if the cell is held or a seat is free
    pub seats_taken : fits (keys cell ink frame) n r rs ≡ true → Takes here p (ink r)
    seats_taken f = go (or_cases _ _ f)
      where
        framed : frame p ≡ true
        framed = subst (λ (q : Cell). frame q ≡ true) at good.framed

        held : State p → is_some (look (cell r)) ≡ true → here.inks p ≡ 0 → ⊥
        held (inl z) e = absurd (both_ways _ z.1 (ap (λ (c : Cell). is_some (look c)) (sym at) ∙ e))
        held (inr z) e = z.0

        go : (is_some (look (cell r)) ≡ true) ⊎ (ltb (length rs) n ≡ true) → Takes here p (ink r)
        go (inl e) = takes_held here p (ink r) good.small framed (held (state p) e)
        go (inr e) = takes_free here p (ink r) good.small framed (ltb-true (length rs) n e)

    pub seats_full : fits (keys cell ink frame) n r rs ≡ false → Refuses here p (ink r) Seats
    seats_full f = refuses_seats here p (ink r) good.small framed good.some (bare (state p)) (ltb-false (length rs) n parts.1)
      where
        parts : (is_some (look (cell r)) ≡ false) × (ltb (length rs) n ≡ false)
        parts = or_parts _ _ f

        framed : frame p ≡ true
        framed = subst (λ (q : Cell). frame q ≡ true) at good.framed

        bare : State p → here.inks p ≡ 0
        bare (inl z) = z.0
        bare (inr z) = absurd (both_ways _ parts.0 (ap (λ (c : Cell). is_some (look c)) at ∙ z.1))

  -- ---- a record is taken

  module _ (p : Cell) where
    abbrev without : List R
    without = taken (keys cell ink frame) p rs

    ink_without : (q : Cell) → Decided q p (same q p) → ink_of cell ink frame (found (keys cell ink frame) q without) ≡ cond (same q p) 0 (here.inks q)
    ink_without q (inl d) = ap (ink_of cell ink frame) (ap (λ (c : Cell). found (keys cell ink frame) c without) d.1 ∙ found_taken (keys cell ink frame) (cells_ordered cell ink frame) p rs s) ∙ sym (cond-true (same q p) _ _ d.0)
    ink_without q (inr d) = ap (ink_of cell ink frame) (found_taken_other (keys cell ink frame) (cells_ordered cell ink frame) q p rs d.1 s) ∙ sym (cond-false (same q p) _ _ d.0)

    count_without : State p → length without ≡ held_after (here.inks p) 0 (length rs)
    count_without (inl z) = ap length (taken_unknown (keys cell ink frame) p rs z.1) ∙ held_none (here.inks p) (length rs) z.0
    count_without (inr z) = held_less (here.inks p) (length rs) (length without) z.0 (length_taken (keys cell ink frame) p rs z.1)

    pub board_taken : record-board cell ink frame without n ≡ with_ink here p 0
    board_taken =
        let count : length without ≡ held_after (here.inks p) 0 (length rs) = count_without (state p) in
        λ i. record { inks = λ q. ink_without q (same_decides q p) i; frame = frame; seats = n; held = count i }

    pub sound_taken : all_sound cell ink frame without ≡ true
    sound_taken = is_all_sound cell ink frame without (all_taken (keys cell ink frame) (Sound cell ink frame) p rs (all_sound_is cell ink frame rs h))
