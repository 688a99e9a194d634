-- A stroke on a board that keeps a page: it answers what the page tells, and leaves a board that keeps the page after it.
use Rattle.std.proofs.Common.{◌≡◌, ℕ, ◌<◌, ◌≤◌, Bool, true, false, cond, not, ◌&&◌, ltb, leb, List, length, Some, None, Option, refl, inl, inr, arith}
use Rattle.std.proofs.lemmas.Bool.{and_parts, and_from, both_ways, leb-true, leb-false, ltb-true, ltb-false}
use Rattle.plane.specs.declared.cell.Cell.{Cell}
use Rattle.plane.specs.Cells.{AllWithin, inside}
use Rattle.plane.specs.Meaning.{Meaning}
use Rattle.plane.proofs.Folding.{inside_within, within_inside}
use Rattle.canvas.specs.Inks.{top_ink}
use Rattle.canvas.specs.Board.{Board}
use Rattle.lines.specs.Lines.{top_length}
use Rattle.sheet.specs.declared.mark.Mark.{Mark}
use Rattle.sheet.specs.declared.refusal.LayRefused.{LayRefused}
use Rattle.sheet.specs.declared.refusal.StrokeRefused.{StrokeRefused}
use Rattle.sheet.specs.declared.refusal.StrokeRefused.TheVariants.{TooManyStrokes, Ink, OffSpan, TooLong, Stopped}
use Rattle.sheet.specs.Laying.{lay_all, Laid}
use Rattle.sheet.specs.Strokes.{top_strokes, stroke_refusal, or_else, strokes_after, by_laying, verdict, told, attempt, stroked, stroke_answer, Stroked}
use Rattle.ledger.specs.Feeding.{Setting, setting}
use Rattle.ledger.specs.Striking.{Page, Ends, Bars, answered, Strikes}
use Rattle.ledger.proofs.Classes.{Classes}
use Rattle.ledger.proofs.Keeping.{Keeps}
use Rattle.ledger.proofs.Lays.{stringing}

module _ (m : Meaning) (frame : Cell → Bool) (strokes : ℕ) (mark : Mark) (from to : Cell) (cells : List Cell) where
  abbrev here : Setting
  here = setting m frame

  abbrev pub Barred : Option StrokeRefused → Type 0
  Barred (Some why) = Bars here strokes mark from to cells why
  Barred None = ((why : StrokeRefused) → Bars here strokes mark from to cells why → ⊥) × (mark.ink ≤ top_ink) × Ends here from to

  abbrev both : Bool
  both = inside m.span from && inside m.span to

  ends_in : both ≡ true → Ends here from to
  ends_in e = let t = and_parts (inside m.span from) (inside m.span to) e in (inside_within m.span from t.0, inside_within m.span to t.1)

  in_ends : Ends here from to → both ≡ true
  in_ends w = and_from (inside m.span from) (inside m.span to) (within_inside m.span from w.0) (within_inside m.span to w.1)

  -- the refusal before any cell is the first reason that holds
  pub barring : Barred (stroke_refusal m strokes mark from to cells)
  barring = go (leb top_strokes strokes) (ltb top_ink mark.ink) both (ltb top_length (length cells)) refl refl refl refl
    where
      go : (a b c d : Bool) → leb top_strokes strokes ≡ a → ltb top_ink mark.ink ≡ b → both ≡ c → ltb top_length (length cells) ≡ d → Barred (or_else (cond a (Some TooManyStrokes) (cond b (Some Ink) (cond (not c) (Some OffSpan) None))) (cond d (Some TooLong) None))
      go true b c d ea eb ec ed = leb-true top_strokes strokes ea
      go false true c d ea eb ec ed = (leb-false top_strokes strokes ea, ltb-true top_ink mark.ink eb)
      go false false false d ea eb ec ed = (leb-false top_strokes strokes ea, ltb-false top_ink mark.ink eb, λ w. both_ways both ec (in_ends w))
      go false false true true ea eb ec ed = (leb-false top_strokes strokes ea, ltb-false top_ink mark.ink eb, ends_in ec, ltb-true top_length (length cells) ed)
      go false false true false ea eb ec ed = (clear, ltb-false top_ink mark.ink eb, ends_in ec)
        where
          few : strokes < top_strokes
          few = leb-false top_strokes strokes ea

          small : mark.ink ≤ top_ink
          small = ltb-false top_ink mark.ink eb

          short : length cells ≤ top_length
          short = ltb-false top_length (length cells) ed

          clear : (why : StrokeRefused) → Bars here strokes mark from to cells why → ⊥
          clear TooManyStrokes h = omega (arith, few)
          clear Ink h = omega (arith, small)
          clear OffSpan h = h.2 (ends_in ec)
          clear TooLong h = omega (arith, short)
          clear (Stopped why) h = h

-- the answer once cells are laid
answers : (stop : Option LayRefused) (n : ℕ) → told (verdict (by_laying stop)) n ≡ answered stop n
answers (Some why) n = refl
answers None n = refl

-- what came of a stroke from page A
pub record Struck (m : Meaning) (frame : Cell → Bool) (mark : Mark) (from to : Cell) (cells : List Cell) (A : Page) (o : Stroked) : Type 0 where
  pub after : Page
  pub strikes : Strikes (setting m frame) from to cells mark A (stroke_answer o) after
  pub keeps : Keeps m frame after.seats after.ledger o.board
  pub strokes : after.strokes ≡ o.strokes

-- a stroke whose cells are in the span if its ends are
pub striking : (m : Meaning) (frame : Cell → Bool) → Classes m → (mark : Mark) (from to : Cell) (cells : List Cell) (A : Page) (b : Board) → (Ends (setting m frame) from to → AllWithin m.span cells) → Keeps m frame A.seats A.ledger b → Struck m frame mark from to cells A (stroked m A.strokes b mark from to cells)
striking m frame cl mark from to cells A b between keeps =
    go (stroke_refusal m A.strokes mark from to cells) (barring m frame A.strokes mark from to cells)
  where
    go : (o : Option StrokeRefused) → Barred m frame A.strokes mark from to cells o → Struck m frame mark from to cells A (attempt o A.strokes b (lay_all m b mark cells))
    go (Some why) h = record { after = A; strikes = inl (why, h, refl, refl); keeps = keeps; strokes = refl }
    go None h =
        let o : Laid = lay_all m b mark cells in
        let w = stringing m frame cl A.seats mark h.1 cells A.ledger b (between h.2) keeps in
        record {
          after = record { ledger = w.ledger; strokes = strokes_after A.strokes o.count; seats = A.seats };
          strikes = inr (h.0, (o.count, o.stop, record { adds = w.adds; count = w.count; strokes = refl; seats = refl }, answers o.stop o.count));
          keeps = w.keeps;
          strokes = refl;
        }
