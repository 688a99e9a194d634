-- What feeds the ledger: the cells of a stroke, in order, until one stops.
--     setting   what a symmetry and a canvas give to a history: the set of operations, the span, the homes and the frame
--     taken     the home of a class that is inked so far
--     clash     the cell is neutral, and the ink is not its own counterpart
--     full      at least as many homes are taken as there are seats
--     stops     the cell stops its stroke with this refusal
--     adds      the ledger with the cells before the one that stops, and what stops it
use Rattle.std.specs.Prelude.{◌≡◌, ℕ, ◌≤◌, Bool, true, false, ◌⊎◌, List, [], ◌∷◌, length, Some, None, Option, ◌≢◌}
use Rattle.plane.specs.declared.cell.Cell.{Cell}
use Rattle.plane.specs.Operation.{Operation}
use Rattle.plane.specs.Meaning.{Meaning}
use Rattle.plane.specs.Laws.{Neutral}
use Rattle.canvas.specs.declared.refusal.PutRefused.TheVariants.{Ink, Frame, Seats}
use Rattle.canvas.specs.Inks.{counterpart}
use Rattle.canvas.specs.Distinct.{Lists}
use Rattle.sheet.specs.declared.mark.Mark.{Mark}
use Rattle.sheet.specs.declared.refusal.LayRefused.{LayRefused}
use Rattle.sheet.specs.declared.refusal.LayRefused.TheVariants.{Clash, Canvas}
use Rattle.ledger.specs.Ledgers.{Entry, Ledger, Latest, Colours}

pub record Setting : Type 1 where
  pub operations : Operation → Type 0
  pub span : ℕ
  pub home : Cell → Cell
  pub frame : Cell → Bool

abbrev pub setting : Meaning → (Cell → Bool) → Setting
setting m frame = record { operations = m.operations; span = m.span; home = m.home; frame = frame }

abbrev pub Taken : (Cell → Cell) → Ledger → Cell → Type 0
Taken home L h = (l : Entry) × Latest (λ p. home p ≡ h) L l × Colours l.mark

abbrev pub Clashes : (Operation → Type 0) → Cell → Mark → Type 0
Clashes ops p mark = Neutral ops p × (counterpart mark.ink ≢ mark.ink)

abbrev pub Full : (Cell → Cell) → ℕ → Ledger → Type 0
Full home seats L = (hs : List Cell) × Lists (Taken home L) hs × (seats ≤ length hs)

abbrev pub Stops : Setting → ℕ → Ledger → Cell → Mark → LayRefused → Type 0
Stops s seats L p mark Clash = Clashes s.operations p mark
Stops s seats L p mark (Canvas Ink) = ⊥
Stops s seats L p mark (Canvas Frame) = (Clashes s.operations p mark → ⊥) × (s.frame (s.home p) ≡ false)
Stops s seats L p mark (Canvas Seats) = (Clashes s.operations p mark → ⊥) × (s.frame (s.home p) ≡ true) × Colours mark × (Taken s.home L (s.home p) → ⊥) × Full s.home seats L

-- L before the cells, M after them
abbrev pub Adds : Setting → ℕ → Mark → List Cell → Ledger → Ledger → Option LayRefused → Type 0
Adds s seats mark [] L M stop = (M ≡ L) × (stop ≡ None)
Adds s seats mark (p ∷ ps) L M stop =
    ((why : LayRefused) × Stops s seats L p mark why × (M ≡ L) × (stop ≡ Some why))
    ⊎ (((why : LayRefused) → Stops s seats L p mark why → ⊥) × Adds s seats mark ps (record { cell = p; mark = mark } ∷ L) M stop)
