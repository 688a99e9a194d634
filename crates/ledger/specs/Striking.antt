-- What a stroke does to a page, and what it answers.
--     page   the ledger, the number of strokes, and the seats of the canvas
--     bars   a stroke is refused before any cell
use Rattle.std.specs.Prelude.{◌≡◌, ℕ, ◌+◌, ◌<◌, ◌≤◌, ◌⊎◌, List, [], length, Some, None, Ok, Err, Option, Result}
use Rattle.plane.specs.declared.cell.Cell.{Cell}
use Rattle.plane.specs.Cells.{Within}
use Rattle.canvas.specs.Inks.{top_ink}
use Rattle.lines.specs.Lines.{top_length}
use Rattle.sheet.specs.declared.mark.Mark.{Mark}
use Rattle.sheet.specs.declared.refusal.LayRefused.{LayRefused}
use Rattle.sheet.specs.declared.refusal.StrokeRefused.{StrokeRefused}
use Rattle.sheet.specs.declared.refusal.StrokeRefused.TheVariants.{TooManyStrokes, Ink, OffSpan, TooLong, Stopped}
use Rattle.sheet.specs.declared.refusal.StrokeStopped.{StrokeStopped}
use Rattle.sheet.specs.Strokes.{top_strokes, strokes_after}
use Rattle.ledger.specs.Ledgers.{Ledger}
use Rattle.ledger.specs.Feeding.{Setting, Adds}

pub record Page : Type 0 where
  pub ledger : Ledger
  pub strokes : ℕ
  pub seats : ℕ

-- nothing is laid yet
abbrev pub blank : ℕ → Page
blank seats = record { ledger = []; strokes = 0; seats = seats }

-- both ends are within the span
abbrev pub Ends : Setting → Cell → Cell → Type 0
Ends s from to = Within s.span from × Within s.span to

-- by the strokes so far, the mark, the ends and the cells between them, the first of four reasons that holds
abbrev pub Bars : Setting → ℕ → Mark → Cell → Cell → List Cell → StrokeRefused → Type 0
Bars s strokes mark from to cells TooManyStrokes = top_strokes ≤ strokes
Bars s strokes mark from to cells Ink = (strokes < top_strokes) × (top_ink < mark.ink)
Bars s strokes mark from to cells OffSpan = (strokes < top_strokes) × (mark.ink ≤ top_ink) × (Ends s from to → ⊥)
Bars s strokes mark from to cells TooLong = (strokes < top_strokes) × (mark.ink ≤ top_ink) × Ends s from to × (top_length < length cells)
Bars s strokes mark from to cells (Stopped why) = ⊥

-- cells are laid from page A to page B; a stroke that lays at least one adds 1 to the strokes
pub record Lays (s : Setting) (mark : Mark) (cells : List Cell) (A B : Page) (laid : ℕ) (stop : Option LayRefused) : Type 0 where
  pub adds : Adds s A.seats mark cells A.ledger B.ledger stop
  pub count : length B.ledger ≡ length A.ledger + laid
  pub strokes : B.strokes ≡ strokes_after A.strokes laid
  pub seats : B.seats ≡ A.seats

-- what is answered once so many cells are laid
abbrev pub answered : Option LayRefused → ℕ → Result ℕ StrokeStopped
answered None laid = Ok laid
answered (Some why) laid = Err (record { refusal = Stopped why; laid = laid })

-- a stroke from page A to page B: refused before any cell, or its cells are laid until one stops
abbrev pub Strikes : Setting → Cell → Cell → List Cell → Mark → Page → Result ℕ StrokeStopped → Page → Type 0
Strikes s from to cells mark A answer B =
    ((why : StrokeRefused) × Bars s A.strokes mark from to cells why × (B ≡ A) × (answer ≡ Err (record { refusal = why; laid = 0 })))
    ⊎ (((why : StrokeRefused) → Bars s A.strokes mark from to cells why → ⊥) × ((laid : ℕ) × (stop : Option LayRefused) × Lays s mark cells A B laid stop × (answer ≡ answered stop laid)))
