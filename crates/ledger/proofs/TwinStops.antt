-- Twin cells on twin ledgers stop alike, and twin lists of cells add alike.
use Rattle.std.proofs.Common.{◌≡◌, ℕ, Bool, true, false, List, [], ◌∷◌, Some, Option, sym, refl, ap, ◌∙◌, subst, subst₂, inl, inr}
use Rattle.plane.specs.declared.cell.Cell.{Cell}
use Rattle.plane.specs.Cells.{AllWithin}
use Rattle.plane.specs.Operation.{xor}
use Rattle.plane.specs.Meaning.{Meaning}
use Rattle.plane.specs.Laws.{Neutral}
use Rattle.canvas.specs.declared.refusal.PutRefused.TheVariants.{Ink, Frame, Seats}
use Rattle.canvas.specs.Inks.{counterpart}
use Rattle.sheet.specs.declared.mark.Mark.{Mark}
use Rattle.sheet.specs.declared.refusal.LayRefused.{LayRefused}
use Rattle.sheet.specs.declared.refusal.LayRefused.TheVariants.{Clash, Canvas}
use Rattle.ledger.specs.Ledgers.{Ledger, Colours}
use Rattle.ledger.specs.Feeding.{Setting, setting, Taken, Full, Clashes, Stops, Adds}
use Rattle.ledger.proofs.Inks.{own_tinted, tinted_colours}
use Rattle.ledger.proofs.Classes.{Goes, Classes}
use Rattle.ledger.proofs.Single.{stops_one}
use Rattle.ledger.proofs.Twins.{Pair, Ledgers, flipped, turned, colours_twin, pair_home, home_shared, latest_twin}

around : (a : Bool) → xor (xor a true) a ≡ true
around true = refl
around false = refl

module _ (m : Meaning) (frame : Cell → Bool) (cl : Classes m) where
  abbrev here : Setting
  here = setting m frame

  pub taken_twin : (L M : Ledger) → Ledgers m L M → (h : Cell) → Taken m.home L h → Taken m.home M h
  taken_twin L M e h t = let r = latest_twin m cl (λ p. m.home p ≡ h) (home_shared m cl h) L M t.0 e t.1 in (r.0, r.1, colours_twin m t.0 r.0 r.2 t.2)

  full_twin : (L M : Ledger) (seats : ℕ) → Ledgers m L M → Full m.home seats L → Full m.home seats M
  full_twin L M seats e f = (f.0, record { distinct = f.1.distinct; exact = λ p. (λ k. taken_twin L M e p ((f.1.exact p).0 k), λ t. (f.1.exact p).1 (taken_twin M L (turned m cl L M e) p t)) }, f.2)

  -- back, around by the odd operation, and on again
  neutral_twin : (p q : Cell) (a : Bool) → Goes m.operations a p q → Neutral m.operations p → Neutral m.operations q
  neutral_twin p q a g n = subst (λ b. Goes m.operations b q q) (around a) (cl.next (xor a true) a q p q (cl.next a true q p p (cl.back a p q g) n) g)

  clash_twin : (p q : Cell) (i j : Mark) (a : Bool) → Pair m p q i j a → Clashes m.operations p i → Clashes m.operations q j
  clash_twin p q i j a w c = (neutral_twin p q a w.goes c.0, λ e. c.1 (own_tinted a i.ink (subst (λ (k : Mark). counterpart k.ink ≡ k.ink) w.marks e)))

  calm_twin : (p q : Cell) (i j : Mark) (a : Bool) → Pair m p q i j a → (Clashes m.operations p i → ⊥) → Clashes m.operations q j → ⊥
  calm_twin p q i j a w n c = n (clash_twin q p j i a (flipped m cl p q i j a w) c)

  pub stops_twin : (seats : ℕ) (L M : Ledger) → Ledgers m L M → (p q : Cell) (i j : Mark) (a : Bool) → Pair m p q i j a → (why : LayRefused) → Stops here seats L p i why → Stops here seats M q j why
  stops_twin seats L M e p q i j a w Clash h = clash_twin p q i j a w h
  stops_twin seats L M e p q i j a w (Canvas Ink) h = h
  stops_twin seats L M e p q i j a w (Canvas Frame) h = (calm_twin p q i j a w h.0, ap frame (sym (pair_home m cl p q i j a w)) ∙ h.1)
  stops_twin seats L M e p q i j a w (Canvas Seats) h =
      let at = pair_home m cl p q i j a w in
      (calm_twin p q i j a w h.0, ap frame (sym at) ∙ h.1, subst (λ (k : Mark). Colours k) (sym w.marks) (tinted_colours a i.ink h.2), λ t. h.3 (taken_twin M L (turned m cl L M e) (m.home p) (subst (λ z. Taken m.home M z) (sym at) t)), full_twin L M seats e h.4)

  -- lists of cells that operations of one parity carry onto one another, place by place
  abbrev pub Rows : Bool → Mark → Mark → List Cell → List Cell → Type 0
  Rows a i j [] [] = Unit {0}
  Rows a i j [] (q ∷ qs) = ⊥
  Rows a i j (p ∷ ps) [] = ⊥
  Rows a i j (p ∷ ps) (q ∷ qs) = Pair m p q i j a × Rows a i j ps qs

  -- cells in the span are their own twins
  pub own_rows : (i : Mark) (ps : List Cell) → AllWithin m.span ps → Rows false i i ps ps
  own_rows i [] w = tt
  own_rows i (p ∷ ps) w = (record { from = w.0; to = w.0; goes = cl.stay p; marks = refl }, own_rows i ps w.1)

  pub adds_twin : (seats : ℕ) (a : Bool) (i j : Mark) (ps qs : List Cell) → Rows a i j ps qs → (L M L' M' : Ledger) (o u : Option LayRefused) → Ledgers m L M → Adds here seats i ps L L' o → Adds here seats j qs M M' u → Ledgers m L' M' × (o ≡ u)
  adds_twin seats a i j [] [] w L M L' M' o u e h k = (subst₂ (Ledgers m) (sym h.0) (sym k.0) e, h.1 ∙ sym k.1)
  adds_twin seats a i j [] (q ∷ qs) w L M L' M' o u e h k = absurd w
  adds_twin seats a i j (p ∷ ps) [] w L M L' M' o u e h k = absurd w
  adds_twin seats a i j (p ∷ ps) (q ∷ qs) w L M L' M' o u e (inl h) (inl k) =
      let r = stops_one here seats M q j h.0 k.0 (stops_twin seats L M e p q i j a w.0 h.0 h.1) k.1 in
      (subst₂ (Ledgers m) (sym h.2) (sym k.2) e, h.3 ∙ ap (λ (z : LayRefused). Some z) r ∙ sym k.3)
  adds_twin seats a i j (p ∷ ps) (q ∷ qs) w L M L' M' o u e (inl h) (inr k) = absurd (k.0 h.0 (stops_twin seats L M e p q i j a w.0 h.0 h.1))
  adds_twin seats a i j (p ∷ ps) (q ∷ qs) w L M L' M' o u e (inr h) (inl k) = absurd (h.0 k.0 (stops_twin seats M L (turned m cl L M e) q p j i a (flipped m cl p q i j a w.0) k.0 k.1))
  adds_twin seats a i j (p ∷ ps) (q ∷ qs) w L M L' M' o u e (inr h) (inr k) =
      adds_twin seats a i j ps qs w.1 (record { cell = p; mark = i } ∷ L) (record { cell = q; mark = j } ∷ M) L' M' o u ((a, w.0), e) h.1 k.1
