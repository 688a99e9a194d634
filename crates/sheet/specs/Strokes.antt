-- What a stroke answers, and the strokes and the board it leaves.
--     stroke    cells with an ink: a dot has one cell, a line those from one end to the other
--     strokes   how many strokes of a sheet laid at least one cell
use Rattle.std.specs.Prelude.{ℕ, ◌+◌, cond, not, ◌&&◌, List, [], ◌∷◌, length, Some, None, Ok, Err, Option, Result, ◌==◌, nat_le, nat_lt}
use Rattle.plane.specs.declared.cell.Cell.{Cell}
use Rattle.plane.specs.Cells.{inside}
use Rattle.plane.specs.Meaning.{Meaning}
use Rattle.canvas.specs.Inks.{top_ink}
use Rattle.canvas.specs.Board.{Board}
use Rattle.lines.specs.Lines.{line_cells, top_length}
use Rattle.sheet.specs.declared.mark.Mark.{Mark}
use Rattle.sheet.specs.declared.refusal.LayRefused.{LayRefused}
use Rattle.sheet.specs.declared.refusal.StrokeRefused.{StrokeRefused}
use Rattle.sheet.specs.declared.refusal.StrokeRefused.TheVariants.{TooManyStrokes, Ink, OffSpan, TooLong, Stopped}
use Rattle.sheet.specs.declared.refusal.StrokeStopped.{StrokeStopped}
use Rattle.sheet.specs.Laying.{Laid, lay_all}

-- the most strokes that a sheet may have
abbrev pub top_strokes : ℕ
top_strokes = 65535

-- why a stroke is refused before its cells are counted, if it is
abbrev pub entry_refusal : Meaning → ℕ → Mark → Cell → Cell → Option StrokeRefused
entry_refusal m strokes mark from to =
    cond (nat_le top_strokes strokes) (Some TooManyStrokes)
    (cond (nat_lt top_ink mark.ink) (Some Ink)
    (cond (not (inside m.span from && inside m.span to)) (Some OffSpan) None))

abbrev pub length_refusal : ℕ → Option StrokeRefused
length_refusal count = cond (nat_lt top_length count) (Some TooLong) None

-- the first of two refusals
abbrev pub or_else : Option StrokeRefused → Option StrokeRefused → Option StrokeRefused
or_else (Some why) next = Some why
or_else None next = next

-- why a stroke is refused before any cell, if it is
abbrev pub stroke_refusal : Meaning → ℕ → Mark → Cell → Cell → List Cell → Option StrokeRefused
stroke_refusal m strokes mark from to cells = or_else (entry_refusal m strokes mark from to) (length_refusal (length cells))

abbrev pub by_laying : Option LayRefused → Option StrokeRefused
by_laying (Some why) = Some (Stopped why)
by_laying None = None

-- the strokes after one that laid so many cells
abbrev pub strokes_after : ℕ → ℕ → ℕ
strokes_after strokes count = cond (count == 0) strokes (strokes + 1)

-- what came of a stroke: how many cells were laid, why it was refused or stopped if it was, and the board and the strokes then
pub record Stroked : Type 0 where
  pub laid : ℕ
  pub refusal : Option StrokeRefused
  pub board : Board
  pub strokes : ℕ

abbrev pub attempt : Option StrokeRefused → ℕ → Board → Laid → Stroked
attempt (Some why) strokes b laid = record { laid = 0; refusal = Some why; board = b; strokes = strokes }
attempt None strokes b laid = record { laid = laid.count; refusal = by_laying laid.stop; board = laid.board; strokes = strokes_after strokes laid.count }

-- a stroke of cells that lie between two ends
abbrev pub stroked : Meaning → ℕ → Board → Mark → Cell → Cell → List Cell → Stroked
stroked m strokes b mark from to cells = attempt (stroke_refusal m strokes mark from to cells) strokes b (lay_all m b mark cells)

abbrev pub dotted : Meaning → ℕ → Board → Cell → Mark → Stroked
dotted m strokes b at mark = stroked m strokes b mark at at (at ∷ [])

abbrev pub lined : Meaning → ℕ → Board → Cell → Cell → Mark → Stroked
lined m strokes b from to mark = stroked m strokes b mark from to (line_cells from to)

-- a refusal, if there is one, as a result
abbrev pub verdict : Option StrokeRefused → Result (Unit {0}) StrokeRefused
verdict (Some why) = Err why
verdict None = Ok tt

-- a result with the number of cells that were laid
abbrev pub told : Result (Unit {0}) StrokeRefused → ℕ → Result ℕ StrokeStopped
told (Ok done) laid = Ok laid
told (Err why) laid = Err (record { refusal = why; laid = laid })

-- what laying the cells of a stroke answers
abbrev pub laying_answer : Laid → Result ℕ StrokeStopped
laying_answer l = told (verdict (by_laying l.stop)) l.count

-- how many cells a stroke laid, by its answer
abbrev pub laid_of : Result ℕ StrokeStopped → ℕ
laid_of (Ok laid) = laid
laid_of (Err stopped) = stopped.laid

-- what a stroke answers
abbrev pub stroke_answer : Stroked → Result ℕ StrokeStopped
stroke_answer s = told (verdict s.refusal) s.laid
