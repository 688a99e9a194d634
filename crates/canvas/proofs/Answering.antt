-- What a put answers, and the board that it leaves, case by case.
use Rattle.std.proofs.Common.{◌≡◌, ℕ, ◌<◌, ◌≤◌, true, Some, None, Ok, Err, Option, ap, arith}
use Rattle.std.proofs.lemmas.Bool.Decides.{nat_tests}
use Rattle.plane.specs.declared.cell.Cell.{Cell}
use Rattle.canvas.specs.declared.refusal.PutRefused.{PutRefused}
use Rattle.canvas.specs.declared.refusal.PutRefused.TheVariants.{Seats}
use Rattle.canvas.specs.Board.{Board, put_refusal, put_answer, put_board, answered, unless, with_ink}

-- a put that is refused for a reason leaves the board
pub record Refuses (b : Board) (p : Cell) (ink : ℕ) (why : PutRefused) : Type 0 where
  pub answer : put_answer b p ink ≡ Err why
  pub board : put_board b p ink ≡ b

-- a put that is not refused gives the cell the ink
pub record Takes (b : Board) (p : Cell) (ink : ℕ) : Type 0 where
  pub answer : put_answer b p ink ≡ Ok tt
  pub board : put_board b p ink ≡ with_ink b p ink

module _ (b : Board) (p : Cell) (ink : ℕ) where
  refuses : (why : PutRefused) → put_refusal b p ink ≡ Some why → Refuses b p ink why
  refuses why e = record { answer = ap answered e; board = ap (λ (o : Option PutRefused). unless o b (with_ink b p ink)) e }

  takes : put_refusal b p ink ≡ None → Takes b p ink
  takes e = record { answer = ap answered e; board = ap (λ (o : Option PutRefused). unless o b (with_ink b p ink)) e }

  module _ (h : ink ≤ 15) (framed : b.frame p ≡ true) where
    pub refuses_seats : 0 < ink → b.inks p ≡ 0 → b.seats ≤ b.held → Refuses b p ink Seats
    refuses_seats some bare full = refuses Seats (grind (arith, nat_tests))

    -- ink 0 needs no seat
    pub takes_bare : ink ≡ 0 → Takes b p ink
    takes_bare z = takes (grind (arith, nat_tests))

    -- nor does a held cell
    pub takes_held : (b.inks p ≡ 0 → ⊥) → Takes b p ink
    takes_held some = takes (grind (arith, nat_tests))

    pub takes_free : b.held < b.seats → Takes b p ink
    takes_free room = takes (grind (arith, nat_tests))
