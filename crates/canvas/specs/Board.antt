-- What a canvas means, and what its calls answer and leave.
--     board     an ink for each cell, 0 where it has none; the frame of admitted cells; how many seats there are and how many cells are held
--     held      a cell is held if it has an ink other than 0
--     seat      a held cell takes one; ink 0 frees it
use Rattle.std.specs.Prelude.{◌≡◌, ℕ, ◌+◌, ◌-◌, ◌<◌, ◌≤◌, Bool, true, cond, not, ◌&&◌, List, length, Some, None, Ok, Err, Option, Result, ◌==◌, nat_le, nat_lt}
use Rattle.plane.specs.declared.cell.Cell.{Cell}
use Rattle.plane.specs.Cells.{same}
use Rattle.canvas.specs.declared.refusal.PutRefused.{PutRefused}
use Rattle.canvas.specs.declared.refusal.PutRefused.TheVariants.{Ink, Frame, Seats}
use Rattle.canvas.specs.Inks.{top_ink}
use Rattle.canvas.specs.Distinct.{Lists}

pub record Board : Type 0 where
  pub inks : Cell → ℕ
  pub frame : Cell → Bool
  pub seats : ℕ
  pub held : ℕ

-- inks are at most 15, held cells lie in the frame, some list has each held cell once and is as long as the number of held cells says, and no more are held than there are seats
pub record BoardLaws (b : Board) : Type 0 where
  pub small : (p : Cell) → b.inks p ≤ top_ink
  pub framed : (p : Cell) → 0 < b.inks p → b.frame p ≡ true
  pub counted : (qs : List Cell) × Lists (λ p. 0 < b.inks p) qs × (length qs ≡ b.held)
  pub seated : b.held ≤ b.seats

-- the put needs a seat and there is none: the ink is not 0, the cell is not held, and as many are held as there are seats
abbrev pub unseated : Board → Cell → ℕ → Bool
unseated b p ink = nat_lt 0 ink && (b.inks p == 0 && nat_le b.seats b.held)

-- why a put is refused, if it is
abbrev pub put_refusal : Board → Cell → ℕ → Option PutRefused
put_refusal b p ink = cond (nat_lt top_ink ink) (Some Ink) (cond (not (b.frame p)) (Some Frame) (cond (unseated b p ink) (Some Seats) None))

abbrev pub answered : Option PutRefused → Result (Unit {0}) PutRefused
answered (Some why) = Err why
answered None = Ok tt

-- what a put answers
abbrev pub put_answer : Board → Cell → ℕ → Result (Unit {0}) PutRefused
put_answer b p ink = answered (put_refusal b p ink)

-- how many are held of n once the ink of a cell has changed
abbrev pub held_after : ℕ → ℕ → ℕ → ℕ
held_after old new n = cond (old == 0) (cond (new == 0) n (n + 1)) (cond (new == 0) (n - 1) n)

-- the board once the cell has the ink
abbrev pub with_ink : Board → Cell → ℕ → Board
with_ink b p ink = record {
  inks = λ q. cond (same q p) ink (b.inks q);
  frame = b.frame;
  seats = b.seats;
  held = held_after (b.inks p) ink b.held;
}

abbrev pub unless : Option PutRefused → Board → Board → Board
unless (Some why) b c = b
unless None b c = c

-- the board after a put
abbrev pub put_board : Board → Cell → ℕ → Board
put_board b p ink = unless (put_refusal b p ink) b (with_ink b p ink)

-- the board after it is cleared
abbrev pub cleared : Board → Board
cleared b = record { inks = λ q. 0; frame = b.frame; seats = b.seats; held = 0 }
