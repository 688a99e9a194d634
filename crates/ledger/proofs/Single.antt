-- One refusal at most, and one page: what a stroke does to a page depends on its cells and its mark alone.
use Rattle.std.proofs.Common.{◌≡◌, ℕ, List, [], ◌∷◌, length, Option, Result, sym, refl, ap, ◌∙◌, inl, inr, arith}
use Rattle.std.proofs.lemmas.Bool.{both_ways}
use Rattle.plane.specs.declared.cell.Cell.{Cell}
use Rattle.canvas.specs.declared.refusal.PutRefused.TheVariants.{Ink as PutInk, Frame, Seats}
use Rattle.sheet.specs.declared.mark.Mark.{Mark}
use Rattle.sheet.specs.declared.refusal.LayRefused.{LayRefused}
use Rattle.sheet.specs.declared.refusal.LayRefused.TheVariants.{Clash, Canvas}
use Rattle.sheet.specs.declared.refusal.StrokeRefused.{StrokeRefused}
use Rattle.sheet.specs.declared.refusal.StrokeRefused.TheVariants.{TooManyStrokes, Ink, OffSpan, TooLong, Stopped}
use Rattle.sheet.specs.declared.refusal.StrokeStopped.{StrokeStopped}
use Rattle.sheet.specs.Strokes.{strokes_after}
use Rattle.ledger.specs.Ledgers.{Ledger}
use Rattle.ledger.specs.Feeding.{Setting, Stops, Adds}
use Rattle.ledger.specs.Striking.{Page, Bars, Lays, Strikes}

-- at most one refusal stops a cell
pub stops_one : (s : Setting) (seats : ℕ) (L : Ledger) (p : Cell) (i : Mark) (r t : LayRefused) → Stops s seats L p i r → Stops s seats L p i t → r ≡ t
stops_one s seats L p i Clash Clash h k = refl
stops_one s seats L p i Clash (Canvas PutInk) h k = absurd k
stops_one s seats L p i Clash (Canvas Frame) h k = absurd (k.0 h)
stops_one s seats L p i Clash (Canvas Seats) h k = absurd (k.0 h)
stops_one s seats L p i (Canvas PutInk) t h k = absurd h
stops_one s seats L p i (Canvas Frame) Clash h k = absurd (h.0 k)
stops_one s seats L p i (Canvas Frame) (Canvas PutInk) h k = absurd k
stops_one s seats L p i (Canvas Frame) (Canvas Frame) h k = refl
stops_one s seats L p i (Canvas Frame) (Canvas Seats) h k = absurd (both_ways (s.frame (s.home p)) h.1 k.1)
stops_one s seats L p i (Canvas Seats) Clash h k = absurd (h.0 k)
stops_one s seats L p i (Canvas Seats) (Canvas PutInk) h k = absurd k
stops_one s seats L p i (Canvas Seats) (Canvas Frame) h k = absurd (both_ways (s.frame (s.home p)) k.1 h.1)
stops_one s seats L p i (Canvas Seats) (Canvas Seats) h k = refl

adds_one : (s : Setting) (seats : ℕ) (i : Mark) (ps : List Cell) (L M N : Ledger) (o u : Option LayRefused) → Adds s seats i ps L M o → Adds s seats i ps L N u → M ≡ N
adds_one s seats i [] L M N o u h k = h.0 ∙ sym k.0
adds_one s seats i (p ∷ ps) L M N o u (inl h) (inl k) = h.2 ∙ sym k.2
adds_one s seats i (p ∷ ps) L M N o u (inl h) (inr k) = absurd (k.0 h.0 h.1)
adds_one s seats i (p ∷ ps) L M N o u (inr h) (inl k) = absurd (h.0 k.0 k.1)
adds_one s seats i (p ∷ ps) L M N o u (inr h) (inr k) = adds_one s seats i ps (record { cell = p; mark = i } ∷ L) M N o u h.1 k.1

-- at most one refusal bars a stroke
pub bars_one : (s : Setting) (n : ℕ) (mark : Mark) (from to : Cell) (cells : List Cell) (r t : StrokeRefused) → Bars s n mark from to cells r → Bars s n mark from to cells t → r ≡ t
bars_one s n mark from to cells TooManyStrokes TooManyStrokes h k = refl
bars_one s n mark from to cells TooManyStrokes Ink h k = absurd (omega arith)
bars_one s n mark from to cells TooManyStrokes OffSpan h k = absurd (omega arith)
bars_one s n mark from to cells TooManyStrokes TooLong h k = absurd (omega arith)
bars_one s n mark from to cells TooManyStrokes (Stopped why) h k = absurd k
bars_one s n mark from to cells Ink TooManyStrokes h k = absurd (omega arith)
bars_one s n mark from to cells Ink Ink h k = refl
bars_one s n mark from to cells Ink OffSpan h k = absurd (omega arith)
bars_one s n mark from to cells Ink TooLong h k = absurd (omega arith)
bars_one s n mark from to cells Ink (Stopped why) h k = absurd k
bars_one s n mark from to cells OffSpan TooManyStrokes h k = absurd (omega arith)
bars_one s n mark from to cells OffSpan Ink h k = absurd (omega arith)
bars_one s n mark from to cells OffSpan OffSpan h k = refl
bars_one s n mark from to cells OffSpan TooLong h k = absurd (h.2 k.2)
bars_one s n mark from to cells OffSpan (Stopped why) h k = absurd k
bars_one s n mark from to cells TooLong TooManyStrokes h k = absurd (omega arith)
bars_one s n mark from to cells TooLong Ink h k = absurd (omega arith)
bars_one s n mark from to cells TooLong OffSpan h k = absurd (k.2 h.2)
bars_one s n mark from to cells TooLong TooLong h k = refl
bars_one s n mark from to cells TooLong (Stopped why) h k = absurd k
bars_one s n mark from to cells (Stopped why) t h k = absurd h

same_page : {A B : Page} → A.ledger ≡ B.ledger → A.strokes ≡ B.strokes → A.seats ≡ B.seats → A ≡ B
same_page el es et = λ i. record { ledger = el i; strokes = es i; seats = et i }

lays_one : (s : Setting) (mark : Mark) (cells : List Cell) (A B C : Page) (m n : ℕ) (o u : Option LayRefused) → Lays s mark cells A B m o → Lays s mark cells A C n u → B ≡ C
lays_one s mark cells A B C m n o u h k =
    let one : B.ledger ≡ C.ledger = adds_one s A.seats mark cells A.ledger B.ledger C.ledger o u h.adds k.adds in
    let same : m ≡ n = let e : length B.ledger ≡ length C.ledger = ap length one in let a = h.count in let b = k.count in omega arith in
    same_page one (h.strokes ∙ ap (strokes_after A.strokes) same ∙ sym k.strokes) (h.seats ∙ sym k.seats)

-- a stroke leads to one page, whatever it answers
pub strikes_one : (s : Setting) (p e : Cell) (cells : List Cell) (mark : Mark) (A B C : Page) (x y : Result ℕ StrokeStopped) → Strikes s p e cells mark A x B → Strikes s p e cells mark A y C → B ≡ C
strikes_one s p e cells mark A B C x y (inl h) (inl k) = h.2 ∙ sym k.2
strikes_one s p e cells mark A B C x y (inl h) (inr k) = absurd (k.0 h.0 h.1)
strikes_one s p e cells mark A B C x y (inr h) (inl k) = absurd (h.0 k.0 k.1)
strikes_one s p e cells mark A B C x y (inr h) (inr k) = lays_one s mark cells A B C h.1.0 k.1.0 h.1.1 k.1.1 h.1.2 k.1.2
