-- Twin strokes on twin pages answer alike and leave twin pages.
use Rattle.std.proofs.Common.{◌≡◌, ℕ, ◌+◌, ◌<◌, ◌≤◌, Bool, false, List, [], ◌∷◌, length, Some, None, Err, Option, Result, sym, ap, ◌∙◌, subst, ap₂, subst₂, inl, inr, arith}
use Rattle.plane.specs.declared.cell.Cell.{Cell}
use Rattle.plane.specs.Cells.{AllWithin}
use Rattle.plane.specs.Meaning.{Meaning}
use Rattle.canvas.specs.Inks.{top_ink}
use Rattle.sheet.specs.declared.mark.Mark.{Mark}
use Rattle.sheet.specs.declared.refusal.LayRefused.{LayRefused}
use Rattle.sheet.specs.declared.refusal.StrokeRefused.{StrokeRefused}
use Rattle.sheet.specs.declared.refusal.StrokeRefused.TheVariants.{TooManyStrokes, Ink, OffSpan, TooLong, Stopped}
use Rattle.sheet.specs.declared.refusal.StrokeStopped.{StrokeStopped}
use Rattle.sheet.specs.Strokes.{stroke_refusal, strokes_after}
use Rattle.ledger.specs.Feeding.{Setting, setting, Adds}
use Rattle.ledger.specs.Striking.{Page, Ends, Bars, Lays, answered, Strikes}
use Rattle.views.proofs.Shown.{tinted-small}
use Rattle.ledger.proofs.Inks.{tinted_large}
use Rattle.ledger.proofs.Classes.{Classes}
use Rattle.ledger.proofs.Single.{bars_one}
use Rattle.ledger.proofs.Strokes.{Barred, barring}
use Rattle.ledger.proofs.Twins.{Pair, Ledgers, as_long, flipped}
use Rattle.ledger.proofs.TwinStops.{Rows, own_rows, adds_twin}

-- twin pages
pub record Pages (m : Meaning) (A B : Page) : Type 0 where
  pub ledgers : Ledgers m A.ledger B.ledger
  pub strokes : A.strokes ≡ B.strokes
  pub seats : A.seats ≡ B.seats

module _ (m : Meaning) (frame : Cell → Bool) (cl : Classes m) where
  abbrev here : Setting
  here = setting m frame

  -- a stroke that nothing bars has its ends in the span
  clear_ends : (n : ℕ) (mark : Mark) (from to : Cell) (cells : List Cell) → ((why : StrokeRefused) → Bars here n mark from to cells why → ⊥) → Ends here from to
  clear_ends n mark from to cells clear = go (stroke_refusal m n mark from to cells) (barring m frame n mark from to cells)
    where
      go : (o : Option StrokeRefused) → Barred m frame n mark from to cells o → Ends here from to
      go (Some why) h = absurd (clear why h)
      go None h = h.2

  -- two strokes that are barred alike
  abbrev BarsToo : Mark → Cell → Cell → List Cell → Mark → Cell → Cell → List Cell → Type 0
  BarsToo i p e ps j q f qs = (n : ℕ) (why : StrokeRefused) → Bars here n i p e ps why → Bars here n j q f qs why

  -- cells laid from twin pages
  lays_twin : (a : Bool) (i j : Mark) (ps qs : List Cell) → Rows m frame cl a i j ps qs → (A A' B B' : Page) (x y : ℕ) (o u : Option LayRefused) → Pages m A A' → Lays here i ps A B x o → Lays here j qs A' B' y u → Pages m B B' × (answered o x ≡ answered u y)
  lays_twin a i j ps qs rows A A' B B' x y o u e h k =
      let k' : Adds here A.seats j qs A'.ledger B'.ledger u = subst (λ n. Adds here n j qs A'.ledger B'.ledger u) (sym e.seats) k.adds in
      let t = adds_twin m frame cl A.seats a i j ps qs rows A.ledger A'.ledger B.ledger B'.ledger o u e.ledgers h.adds k' in
      let same : x ≡ y = level (length A.ledger) (length A'.ledger) (length B.ledger) (length B'.ledger) x y (as_long m A.ledger A'.ledger e.ledgers) (as_long m B.ledger B'.ledger t.0) h.count k.count in
      (record { ledgers = t.0; strokes = h.strokes ∙ ap₂ strokes_after e.strokes same ∙ sym k.strokes; seats = h.seats ∙ e.seats ∙ sym k.seats }, ap₂ answered t.1 same)
    where
      level : (x x' y y' m n : ℕ) → x ≡ x' → y ≡ y' → y ≡ x + m → y' ≡ x' + n → m ≡ n
      level x x' y y' m n a b c d = omega arith

  -- two strokes that are barred alike, and whose cells pair off under one parity if the ends of the first are in the span
  strikes_twin : (a : Bool) (p e q f : Cell) (ps qs : List Cell) (i j : Mark) (A A' B B' : Page) (x y : Result ℕ StrokeStopped) → BarsToo i p e ps j q f qs → BarsToo j q f qs i p e ps → (Ends here p e → Rows m frame cl a i j ps qs) → Pages m A A' → Strikes here p e ps i A x B → Strikes here q f qs j A' y B' → Pages m B B' × (x ≡ y)
  strikes_twin a p e q f ps qs i j A A' B B' x y forth back rows same (inl h) (inl k) =
      let r : h.0 ≡ k.0 = bars_one here A'.strokes j q f qs h.0 k.0 (forth A'.strokes h.0 (subst (λ n. Bars here n i p e ps h.0) same.strokes h.1)) k.1 in
      (subst₂ (Pages m) (sym h.2) (sym k.2) same, h.3 ∙ ap (λ (z : StrokeRefused). Err (record { refusal = z; laid = 0 })) r ∙ sym k.3)
  strikes_twin a p e q f ps qs i j A A' B B' x y forth back rows same (inl h) (inr k) =
      absurd (k.0 h.0 (forth A'.strokes h.0 (subst (λ n. Bars here n i p e ps h.0) same.strokes h.1)))
  strikes_twin a p e q f ps qs i j A A' B B' x y forth back rows same (inr h) (inl k) =
      absurd (h.0 k.0 (back A.strokes k.0 (subst (λ n. Bars here n j q f qs k.0) (sym same.strokes) k.1)))
  strikes_twin a p e q f ps qs i j A A' B B' x y forth back rows same (inr h) (inr k) =
      let t = lays_twin a i j ps qs (rows (clear_ends A.strokes i p e ps h.0)) A A' B B' h.1.0 k.1.0 h.1.1 k.1.1 same h.1.2 k.1.2 in
      (t.0, h.1.3 ∙ t.1 ∙ sym k.1.3)

  -- one stroke, whose cells are in the span if its ends are, on twin pages
  pub same_stroke : (p e : Cell) (ps : List Cell) (i : Mark) (A A' B B' : Page) (x y : Result ℕ StrokeStopped) → (Ends here p e → AllWithin m.span ps) → Pages m A A' → Strikes here p e ps i A x B → Strikes here p e ps i A' y B' → Pages m B B' × (x ≡ y)
  same_stroke p e ps i A A' B B' x y between same h k =
      strikes_twin false p e p e ps ps i i A A' B B' x y (λ n why b. b) (λ n why b. b) (λ w. own_rows m frame cl i ps (between w)) same h k

  -- a dot within the span and one carried onto it are barred alike
  dot_bars : (p q : Cell) (i j : Mark) (a : Bool) → Pair m p q i j a → BarsToo i p p (p ∷ []) j q q (q ∷ [])
  dot_bars p q i j a w n TooManyStrokes h = h
  dot_bars p q i j a w n Ink h = (h.0, subst (λ (k : Mark). top_ink < k.ink) (sym w.marks) (tinted_large a i.ink h.1))
  dot_bars p q i j a w n OffSpan h = absurd (h.2 (w.from, w.from))
  dot_bars p q i j a w n TooLong h = (h.0, subst (λ (k : Mark). k.ink ≤ top_ink) (sym w.marks) (tinted-small a i.ink h.1), (w.to, w.to), h.3)
  dot_bars p q i j a w n (Stopped why) h = h

  -- twin dots on twin pages
  pub twin_dots : (p q : Cell) (i j : Mark) (a : Bool) (A A' B B' : Page) (x y : Result ℕ StrokeStopped) → Pair m p q i j a → Pages m A A' → Strikes here p p (p ∷ []) i A x B → Strikes here q q (q ∷ []) j A' y B' → Pages m B B' × (x ≡ y)
  twin_dots p q i j a A A' B B' x y w same h k =
      strikes_twin a p p q q (p ∷ []) (q ∷ []) i j A A' B B' x y (dot_bars p q i j a w) (dot_bars q p j i a (flipped m cl p q i j a w)) (λ _. (w, tt)) same h k
