-- A history of a sheet, with what each call answered, told by the ledger of what came before it.
--     lent    what is lent to a history for its windows: a palette, and an output before and after
--     part    the bytes of an output that a window is given: so many from a place on, fewer where the output ends
--     told    every answer and every byte is what the ledger tells
use Rattle.std.specs.Prelude.{◌≡◌, ℕ, ◌+◌, min, List, [], ◌∷◌, map, length, take, drop, Some, None, Option, Result}
use Rattle.plane.specs.declared.cell.Cell.{Cell}
use Rattle.plane.specs.declared.fold.FoldRefused.{FoldRefused}
use Rattle.plane.specs.Cells.{Within}
use Rattle.lines.specs.Lines.{line_cells}
use Rattle.sheet.specs.declared.refusal.StrokeStopped.{StrokeStopped}
use Rattle.views.specs.declared.refusal.WindowRefused.{WindowRefused}
use Rattle.sheet.specs.Laying.{marked}
use Rattle.ledger.specs.Ledgers.{Ledger}
use Rattle.ledger.specs.Planes.{Shows, Fewest}
use Rattle.ledger.specs.Feeding.{Setting}
use Rattle.ledger.specs.Striking.{Page, blank, Strikes}
use Rattle.ledger.specs.Looking.{ShowsAt, Paints}
use Rattle.history.specs.declared.calls.Look.{Look}
use Rattle.history.specs.declared.calls.Look.TheVariants.{Show, Window as Windows}
use Rattle.history.specs.declared.calls.Drawing.{Drawing}
use Rattle.history.specs.declared.calls.Drawing.TheVariants.{Dot, Line, Look as Looks}
use Rattle.history.specs.declared.calls.Viewing.{Viewing}
use Rattle.history.specs.declared.calls.Viewing.TheVariants.{Look as LooksBack, Quote as Quotes}
use Rattle.history.specs.declared.calls.Answer.{Answer}
use Rattle.history.specs.declared.calls.Answer.TheVariants.{Stroked, Shown, Windowed, Quoted}
use Rattle.history.specs.declared.calls.Answered.{Answered}

pub record Lent : Type 0 where
  pub palette : List ℕ
  pub before : List ℕ
  pub after : List ℕ

abbrev pub part : ℕ → ℕ → List ℕ → List ℕ
part at size bytes = take size (drop at bytes)

-- how many bytes of the output a call is given
abbrev pub look_room : Look → ℕ
look_room (Show q) = 0
look_room (Windows w) = w.output

abbrev pub drawing_room : Drawing → ℕ
drawing_room (Dot p ink) = 0
drawing_room (Line p q ink) = 0
drawing_room (Looks look) = look_room look

abbrev pub viewing_room : Viewing → ℕ
viewing_room (LooksBack look) = look_room look
viewing_room Quotes = 0

-- the place in an output of this length after a part of so many bytes: where the next part begins
abbrev pub past : ℕ → ℕ → ℕ → ℕ
past long at size = min long (at + size)

-- a show, or a window whose part of the output begins at a place
abbrev pub Seen : Setting → Lent → ℕ → Ledger → Look → Option Answer → Type 0
Seen s lent at L (Show q) answer = (x : Result ℕ FoldRefused) × ShowsAt s L q x × (answer ≡ Some (Shown x))
Seen s lent at L (Windows w) answer =
    (x : Result ℕ WindowRefused) × Paints s L w.rectangle.corner w.rectangle.width w.rectangle.height (take w.palette lent.palette) (part at w.output lent.before) (part at w.output lent.after) x × (answer ≡ Some (Windowed x))

-- a call on an open sheet, from page A to page B
abbrev pub Draws : Setting → Lent → ℕ → Page → Drawing → Option Answer → Page → Type 0
Draws s lent at A (Dot p ink) answer B = (x : Result ℕ StrokeStopped) × Strikes s p p (p ∷ []) (marked ink) A x B × (answer ≡ Some (Stroked x))
Draws s lent at A (Line p q ink) answer B = (x : Result ℕ StrokeStopped) × Strikes s p q (line_cells p q) (marked ink) A x B × (answer ≡ Some (Stroked x))
Draws s lent at A (Looks look) answer B = (B ≡ A) × Seen s lent at A.ledger look answer

-- a call on a sheet that was closed at page A
abbrev pub Views : Setting → Lent → ℕ → Page → Viewing → Option Answer → Type 0
Views s lent at A (LooksBack look) answer = Seen s lent at A.ledger look answer
Views s lent at A Quotes answer = (n : ℕ) × Fewest s.operations A.ledger n × (answer ≡ Some (Quoted (record { held = n; strokes = A.strokes })))

-- the calls on an open sheet in order, from page A to page B, and from one place of the output to another
abbrev pub DrawsAll : Setting → Lent → ℕ → Page → List (Answered Drawing) → ℕ → Page → Type 0
DrawsAll s lent at A [] end B = (end ≡ at) × (B ≡ A)
DrawsAll s lent at A (e ∷ es) end B = (M : Page) × Draws s lent at A e.call e.answer M × DrawsAll s lent (past (length lent.before) at (drawing_room e.call)) M es end B

abbrev pub ViewsAll : Setting → Lent → ℕ → Page → List (Answered Viewing) → ℕ → Type 0
ViewsAll s lent at A [] end = end ≡ at
ViewsAll s lent at A (e ∷ es) end = Views s lent at A e.call e.answer × ViewsAll s lent (past (length lent.before) at (viewing_room e.call)) A es end

-- the calls on the closed sheet, if it was closed
abbrev pub Closing : Setting → Lent → ℕ → Page → Option (List (Answered Viewing)) → ℕ → Type 0
Closing s lent at A None end = end ≡ at
Closing s lent at A (Some vs) end = ViewsAll s lent at A vs end

abbrev pub drawing_calls : List (Answered Drawing) → List Drawing
drawing_calls = map (λ e. e.call)

-- a history on a canvas with so many seats, at the end of which each cell shows an ink
pub record Told (s : Setting) (seats : ℕ) (lent : Lent) (drawing : List (Answered Drawing)) (viewing : Option (List (Answered Viewing))) (ink : Cell → ℕ) : Type 0 where
  -- the page at the end, with the ledger of all calls, and the places where the parts of the output end
  pub page : Page
  pub middle : ℕ
  pub end : ℕ
  pub drawn : DrawsAll s lent 0 (blank seats) drawing middle page
  -- no other page comes of these calls, whatever they are said to have answered
  pub alone : (lent' : Lent) (drawing' : List (Answered Drawing)) (end' : ℕ) (B : Page) → drawing_calls drawing ≡ drawing_calls drawing' → DrawsAll s lent' 0 (blank seats) drawing' end' B → page ≡ B
  pub viewed : Closing s lent middle page viewing end
  -- every cell in the span shows at the end what the ledger tells
  pub shows : (q : Cell) → Within s.span q → Shows s.operations page.ledger q (ink q)
  -- the bytes that no window was given stay
  pub rest : drop end lent.after ≡ drop end lent.before
  pub long : length lent.after ≡ length lent.before
