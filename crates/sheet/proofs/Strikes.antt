-- A stroke, by what was found before its cells and by what came of them.
use Rattle.std.proofs.Common.{◌≡◌, ℕ, ◌<◌, ◌≤◌, Bool, true, false, cond, not, ◌&&◌, ltb, leb, List, length, Some, None, Ok, Err, Option, refl, ap, ◌∙◌, arith}
use Rattle.std.proofs.lemmas.Bool.{cond-false, leb-false, le-ltb, ltb-false}
use Rattle.plane.specs.declared.cell.Cell.{Cell}
use Rattle.plane.specs.Cells.{Within, inside}
use Rattle.plane.specs.Meaning.{Meaning}
use Rattle.plane.proofs.Folding.{inside_within}
use Rattle.canvas.specs.Inks.{top_ink}
use Rattle.canvas.specs.Board.{Board}
use Rattle.lines.specs.Lines.{top_length}
use Rattle.sheet.specs.declared.mark.Mark.{Mark}
use Rattle.sheet.specs.declared.refusal.StrokeRefused.{StrokeRefused}
use Rattle.sheet.specs.declared.refusal.StrokeRefused.TheVariants.{TooManyStrokes, Ink, OffSpan, TooLong}
use Rattle.sheet.specs.Laying.{Laid, lay_all}
use Rattle.sheet.specs.Strokes.{attempt, entry_refusal, length_refusal, or_else, stroke_refusal, stroked, laid_of, strokes_after, told, top_strokes, verdict}

-- a verdict tells its refusal
pub verdict_none : (o : Option StrokeRefused) (u : Unit {0}) → Ok u ≡ verdict o → o ≡ None
verdict_none (Some why) u e = cc
verdict_none None u e = refl

pub verdict_some : (o : Option StrokeRefused) (why : StrokeRefused) → Err why ≡ verdict o → o ≡ Some why
verdict_some (Some w) why e = cc
verdict_some None why e = cc

-- what holds of a stroke that may begin
pub record Entered (m : Meaning) (strokes : ℕ) (mark : Mark) (from to : Cell) : Type 0 where
  pub room : strokes < top_strokes
  pub ink : mark.ink ≤ top_ink
  pub start : Within m.span from
  pub end : Within m.span to

none_of : (a b c d : Bool) → cond a (Some TooManyStrokes) (cond b (Some Ink) (cond (not (c && d)) (Some OffSpan) None)) ≡ None → (a ≡ false) × (b ≡ false) × (c ≡ true) × (d ≡ true)
none_of true b c d e = cc
none_of false true c d e = cc
none_of false false true true e = (refl, refl, refl, refl)
none_of false false true false e = cc
none_of false false false d e = cc

pub entered : (m : Meaning) (strokes : ℕ) (mark : Mark) (from to : Cell) → entry_refusal m strokes mark from to ≡ None → Entered m strokes mark from to
entered m strokes mark from to e =
    let t = none_of (leb top_strokes strokes) (ltb top_ink mark.ink) (inside m.span from) (inside m.span to) e in
    record {
      room = let h = leb-false top_strokes strokes t.0 in omega arith;
      ink = ltb-false top_ink mark.ink t.1;
      start = inside_within m.span from t.2;
      end = inside_within m.span to t.3;
    }

module _ (m : Meaning) (strokes : ℕ) (mark : Mark) (from to : Cell) (cells : List Cell) where
  -- refused before its cells were counted
  pub refused_first : (why : StrokeRefused) → entry_refusal m strokes mark from to ≡ Some why → stroke_refusal m strokes mark from to cells ≡ Some why
  refused_first why e = ap (λ o. or_else o (length_refusal (length cells))) e

  -- not refused
  pub refused_not : entry_refusal m strokes mark from to ≡ None → length cells ≤ top_length → stroke_refusal m strokes mark from to cells ≡ None
  refused_not e h = ap (λ o. or_else o (length_refusal (length cells))) e ∙ cond-false (ltb top_length (length cells)) (Some TooLong) None (le-ltb top_length (length cells) h)

  -- a stroke that lays a cell was made on a sheet with room for it
  pub room_for : (b : Board) → 0 < (stroked m strokes b mark from to cells).laid → strokes < top_strokes
  room_for b h = go (entry_refusal m strokes mark from to) refl
    where
      go : (o : Option StrokeRefused) → entry_refusal m strokes mark from to ≡ o → strokes < top_strokes
      go (Some why) e = absurd (let z : (stroked m strokes b mark from to cells).laid ≡ 0 = ap (λ o. (attempt o strokes b (lay_all m b mark cells)).laid) (refused_first why e) in omega arith)
      go None e = (entered m strokes mark from to e).room

-- the answer of a stroke tells how many cells it laid
pub laid_told : (o : Option StrokeRefused) (n : ℕ) → laid_of (told (verdict o) n) ≡ n
laid_told (Some why) n = refl
laid_told None n = refl

-- ---- the strokes of the sheet
counted : (o : Option StrokeRefused) (strokes : ℕ) (b : Board) (l : Laid) → strokes_after strokes (attempt o strokes b l).laid ≡ (attempt o strokes b l).strokes
counted (Some why) strokes b l = refl
counted None strokes b l = refl

pub strokes_counted : (m : Meaning) (strokes : ℕ) (b : Board) (mark : Mark) (from to : Cell) (cells : List Cell) → strokes_after strokes (stroked m strokes b mark from to cells).laid ≡ (stroked m strokes b mark from to cells).strokes
strokes_counted m strokes b mark from to cells = counted (stroke_refusal m strokes mark from to cells) strokes b (lay_all m b mark cells)
