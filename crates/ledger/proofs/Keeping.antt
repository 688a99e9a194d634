-- A board that keeps a ledger: it follows it, has the laws of a board, and has this frame and as many seats.
use Rattle.std.proofs.Common.{◌≡◌, ℕ, ◌<◌, ◌≤◌, Bool, ◌↔◌, List, [], length, refl, arith}
use Rattle.plane.specs.declared.cell.Cell.{Cell}
use Rattle.plane.specs.Meaning.{Meaning}
use Rattle.canvas.specs.Board.{Board, BoardLaws, cleared}
use Rattle.canvas.specs.Distinct.{Lists}
use Rattle.canvas.proofs.Boards.{cleared_laws}
use Rattle.ledger.specs.Ledgers.{Ledger}
use Rattle.ledger.specs.Feeding.{Taken, Full}
use Rattle.ledger.proofs.Counting.{no_longer}
use Rattle.ledger.proofs.Homes.{Follows, held_taken}

pub record Keeps (m : Meaning) (frame : Cell → Bool) (seats : ℕ) (L : Ledger) (b : Board) : Type 0 where
  pub follows : Follows m L b.inks
  pub laws : BoardLaws b
  pub framed : b.frame ≡ frame
  pub seated : b.seats ≡ seats

-- a cleared board keeps the empty ledger
pub keeps_none : (m : Meaning) (b : Board) → Keeps m b.frame b.seats [] (cleared b)
keeps_none m b = record { follows = record { sound = tt; left = λ h. refl }; laws = cleared_laws b; framed = refl; seated = refl }

module _ (m : Meaning) (frame : Cell → Bool) (seats : ℕ) (L : Ledger) (b : Board) (keeps : Keeps m frame seats L b) where
  pub taken_iff : (h : Cell) → (0 < b.inks h) ↔ Taken m.home L h
  taken_iff = held_taken m L b.inks keeps.follows

  -- the held cells list the homes taken
  pub taken_listed : (hs : List Cell) × Lists (Taken m.home L) hs × (length hs ≡ b.held)
  taken_listed =
      let t = keeps.laws.counted in
      (t.0, record { distinct = t.1.distinct; exact = λ p. (λ k. (taken_iff p).0 ((t.1.exact p).0 k), λ k. (t.1.exact p).1 ((taken_iff p).1 k)) }, t.2)

  pub is_full : b.seats ≤ b.held → Full m.home seats L
  is_full k =
      let t = taken_listed in
      (t.0, t.1, let e = keeps.seated in omega (arith, t.2))

  pub not_full : b.held < b.seats → Full m.home seats L → ⊥
  not_full k f =
      let t = taken_listed in
      let shorter : length f.0 ≤ length t.0 = no_longer f.0 t.0 f.1.distinct (λ h n. (t.1.exact h).1 ((f.1.exact h).0 n)) in
      let e = keeps.seated in
      omega (arith, t.2, f.2)
