-- A put by way of the shelf: an ink is an insertion, and ink 0 a removal.
use Rattle.std.proofs.Common.{◌≡◌, ℕ, ◌≤◌, Bool, true, false, cond, List, Some, Ok, Err, Result, sym, refl, ap, ◌∙◌, subst, ap₂, arith}
use Rattle.std.proofs.lemmas.Option.{cond_some}
use Rattle.plane.specs.declared.cell.Cell.{Cell}
use Rattle.canvas.specs.declared.refusal.PutRefused.{PutRefused}
use Rattle.canvas.specs.declared.refusal.PutRefused.TheVariants.{Seats}
use Rattle.canvas.specs.Board.{Board, put_answer, put_board, with_ink}
use Rattle.canvas.specs.Refusals.{from_shelf}
use Rattle.canvas.proofs.Answering.{Takes, Refuses, takes_bare}
use Rattle.canvas.proofs.Recorded.{Sound}
use Rattle.canvas.proofs.Recording.{board_stored, sound_stored, seats_taken, seats_full, board_taken, sound_taken}
use Rattle.shelf.specs.declared.refusal.ShelfRefused.{ShelfRefused}
use Rattle.shelf.specs.declared.refusal.ShelfRefused.TheVariants.{Full}
use Rattle.shelf.specs.Changes.{fits}
use Rattle.shelf.specs.Held.{insert-answer, insert-held}
use Rattle.shelf.specs.Keys.{Sorted, stored, taken}
use Rattle.sparse.specs.declared.record.CellRecord.{CellRecord}
use Rattle.sparse.specs.Records.{cell_of, ink_of, framed, record_if, cell_keys, sound, cells_board}

-- what a put answers where the shelf answers this
abbrev pub told : Result (Unit {0}) ShelfRefused → Result (Unit {0}) PutRefused
told (Ok u) = Ok tt
told (Err why) = Err (from_shelf why)

-- what a put owes, where rs is held after it, on a table of m
pub record Puts (before : Board) (p : Cell) (ink : ℕ) (answer : Result (Unit {0}) PutRefused) (rs : List CellRecord) (m : ℕ) : Type 0 where
  pub answers : answer ≡ put_answer before p ink
  pub board : cells_board rs m ≡ put_board before p ink
  pub sound : sound rs ≡ true

module _ (rs : List CellRecord) (n : ℕ) (s : Sorted cell_keys rs) (h : sound rs ≡ true) (p : Cell) (ink : ℕ) (low : ink ≤ 15) (new : CellRecord) (made : record_if p ink ≡ Some new) where
  abbrev here : Board
  here = cells_board rs n

  in_frame : framed p ≡ true
  in_frame = (cond_some (framed p) _ new made).0

  at : cell_of new ≡ p
  at = ap cell_of (sym (cond_some (framed p) _ new made).1)

  inky : ink_of new ≡ ink
  inky = ap ink_of (sym (cond_some (framed p) _ new made).1)

  pub bare : ink ≡ 0 → (after : List CellRecord) (m : ℕ) → after ≡ taken cell_keys p rs → m ≡ n → Puts here p ink (Ok tt) after m
  bare zero after m is same =
      let t : Takes here p ink = takes_bare here p ink low in_frame zero in
      record {
        answers = sym t.answer;
        board = ap₂ cells_board is same ∙ board_taken cell_of ink_of framed rs n s h p ∙ ap (with_ink here p) (sym zero) ∙ sym t.board;
        sound = ap sound is ∙ sound_taken cell_of ink_of framed rs n s h p;
      }

  module _ (some : ink ≡ 0 → ⊥) where
    good : Sound cell_of ink_of framed new
    good = record { some = omega (arith, inky); small = omega (arith, inky); framed = ap framed at ∙ in_frame }

    goes_in : fits cell_keys n new rs ≡ true → Puts here p ink (Ok tt) (stored cell_keys new rs) n
    goes_in room =
        let t : Takes here p ink = subst (λ i. Takes here p i) inky (seats_taken cell_of ink_of framed rs n s h new p at good room) in
        record {
          answers = sym t.answer;
          board = board_stored cell_of ink_of framed rs n s h new p at good ∙ ap (with_ink here p) inky ∙ sym t.board;
          sound = sound_stored cell_of ink_of framed rs n s h new p at good;
        }

    stays_out : fits cell_keys n new rs ≡ false → Puts here p ink (Err Seats) rs n
    stays_out full =
        let t : Refuses here p ink Seats = subst (λ i. Refuses here p i Seats) inky (seats_full cell_of ink_of framed rs n s h new p at good full) in
        record { answers = sym t.answer; board = sym t.board; sound = h }

    pub inked : (answer : Result (Unit {0}) ShelfRefused) (after : List CellRecord) (m : ℕ) → answer ≡ insert-answer cell_keys n new rs → after ≡ insert-held cell_keys n new rs → m ≡ n → Puts here p ink (told answer) after m
    inked answer after m is holds same = subst (λ k. Puts here p ink (told answer) after k) (sym same) (subst (λ xs. Puts here p ink (told answer) xs n) (sym holds) (subst (λ r. Puts here p ink (told r) (insert-held cell_keys n new rs) n) (sym is) (go (fits cell_keys n new rs) refl)))
      where
        go : (b : Bool) → fits cell_keys n new rs ≡ b → Puts here p ink (told (cond b (Ok tt) (Err Full))) (cond b (stored cell_keys new rs) rs) n
        go true t = goes_in t
        go false t = stays_out t
