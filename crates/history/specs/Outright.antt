-- What each call of a history answers and leaves, outright.
--     bytes    those of the call's part of the output
use Rattle.std.specs.Prelude.{ℕ, List, take}
use Rattle.plane.specs.Meaning.{Meaning}
use Rattle.canvas.specs.Board.{Board}
use Rattle.views.specs.Shows.{shown}
use Rattle.views.specs.Windows.{window_answer, window_output}
use Rattle.sheet.specs.Laying.{marked}
use Rattle.sheet.specs.Strokes.{dotted, lined, stroke_answer}
use Rattle.history.specs.declared.calls.Look.{Look}
use Rattle.history.specs.declared.calls.Look.TheVariants.{Show, Window as Windows}
use Rattle.history.specs.declared.calls.Drawing.{Drawing}
use Rattle.history.specs.declared.calls.Drawing.TheVariants.{Dot, Line, Look as Looks}
use Rattle.history.specs.declared.calls.Viewing.{Viewing}
use Rattle.history.specs.declared.calls.Viewing.TheVariants.{Look as LooksBack, Quote as Quotes}
use Rattle.history.specs.declared.calls.Answer.{Answer}
use Rattle.history.specs.declared.calls.Answer.TheVariants.{Stroked as StrokedSo, Shown, Windowed, Quoted}

abbrev pub look_answer : Meaning → Board → List ℕ → Look → List ℕ → Answer
look_answer m b palette (Show q) bytes = Shown (shown m b q)
look_answer m b palette (Windows w) bytes = Windowed (window_answer m w.rectangle.corner w.rectangle.width w.rectangle.height (take w.palette palette) bytes)

abbrev pub look_output : Meaning → Board → List ℕ → Look → List ℕ → List ℕ
look_output m b palette (Show q) bytes = bytes
look_output m b palette (Windows w) bytes = window_output m b w.rectangle.corner w.rectangle.width w.rectangle.height (take w.palette palette) bytes

abbrev pub draw_answer : Meaning → ℕ → Board → List ℕ → Drawing → List ℕ → Answer
draw_answer m strokes b palette (Dot p ink) bytes = StrokedSo (stroke_answer (dotted m strokes b p (marked ink)))
draw_answer m strokes b palette (Line p q ink) bytes = StrokedSo (stroke_answer (lined m strokes b p q (marked ink)))
draw_answer m strokes b palette (Looks look) bytes = look_answer m b palette look bytes

abbrev pub draw_strokes : Meaning → ℕ → Board → Drawing → ℕ
draw_strokes m strokes b (Dot p ink) = (dotted m strokes b p (marked ink)).strokes
draw_strokes m strokes b (Line p q ink) = (lined m strokes b p q (marked ink)).strokes
draw_strokes m strokes b (Looks look) = strokes

abbrev pub draw_board : Meaning → ℕ → Board → Drawing → Board
draw_board m strokes b (Dot p ink) = (dotted m strokes b p (marked ink)).board
draw_board m strokes b (Line p q ink) = (lined m strokes b p q (marked ink)).board
draw_board m strokes b (Looks look) = b

abbrev pub draw_output : Meaning → Board → List ℕ → Drawing → List ℕ → List ℕ
draw_output m b palette (Dot p ink) bytes = bytes
draw_output m b palette (Line p q ink) bytes = bytes
draw_output m b palette (Looks look) bytes = look_output m b palette look bytes

abbrev pub view_answer : Meaning → ℕ → ℕ → Board → List ℕ → Viewing → List ℕ → Answer
view_answer m held strokes b palette (LooksBack look) bytes = look_answer m b palette look bytes
view_answer m held strokes b palette Quotes bytes = Quoted (record { held = held; strokes = strokes })

abbrev pub view_output : Meaning → Board → List ℕ → Viewing → List ℕ → List ℕ
view_output m b palette (LooksBack look) bytes = look_output m b palette look bytes
view_output m b palette Quotes bytes = bytes
