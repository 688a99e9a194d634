-- What a cell shows.
use Rattle.std.specs.Prelude.{ℕ, Bool, true, false, Ok, Err, Result}
use Rattle.plane.specs.declared.cell.Cell.{Cell}
use Rattle.plane.specs.declared.fold.FoldRefused.{FoldRefused}
use Rattle.plane.specs.declared.fold.FoldRefused.TheVariants.{OffSpan}
use Rattle.plane.specs.Cells.{inside}
use Rattle.plane.specs.Meaning.{Meaning}
use Rattle.canvas.specs.Board.{Board}
use Rattle.views.specs.Tints.{all_odd, tinted}

-- the ink at the home of a cell, or its counterpart if the cell's kinds are all odd
abbrev pub shown_ink : Meaning → Board → Cell → ℕ
shown_ink m b p = tinted (all_odd (m.kinds p)) (b.inks (m.home p))

abbrev pub shown_if : Bool → ℕ → Result ℕ FoldRefused
shown_if true ink = Ok ink
shown_if false ink = Err OffSpan

-- what show answers: a refusal exactly where the cell is off the span
abbrev pub shown : Meaning → Board → Cell → Result ℕ FoldRefused
shown m b p = shown_if (inside m.span p) (shown_ink m b p)
