-- Shows, windows and counts of twin ledgers are the same.
use Rattle.std.proofs.Common.{◌≡◌, ℕ, ◌≤◌, Bool, List, [], ◌∷◌, ◌++◌, length, ℤ, nat_abs, Ok, Err, Result, sym, refl, ap, ◌∙◌, subst, ap₂, inl, inr, arith}
use Rattle.plane.specs.declared.cell.Cell.{Cell}
use Rattle.plane.specs.declared.fold.FoldRefused.{FoldRefused}
use Rattle.plane.specs.Meaning.{Meaning}
use Rattle.plane.specs.Laws.{Carried}
use Rattle.sheet.specs.declared.mark.Mark.{Mark}
use Rattle.views.specs.declared.refusal.WindowRefused.{WindowRefused}
use Rattle.views.specs.declared.refusal.WindowRefused.TheVariants.{Side, OffSpan, Palette, Output}
use Rattle.views.specs.Tints.{tinted}
use Rattle.plane.specs.Rectangles.{window_cells}
use Rattle.views.specs.Windows.{header, colour, written_over}
use Rattle.ledger.specs.Ledgers.{Entry, Ledger}
use Rattle.ledger.specs.Planes.{Shows, Inked, Makes, Fewest}
use Rattle.ledger.specs.Feeding.{Setting, setting}
use Rattle.ledger.specs.Looking.{ShowsAt, Pixels, Denies, Paints}
use Rattle.ledger.proofs.Inks.{tinted-tinted}
use Rattle.ledger.proofs.Classes.{Classes}
use Rattle.ledger.proofs.Entries.{latest_unique, latest_has, untouched_latest}
use Rattle.ledger.proofs.Onto.{goes_of}
use Rattle.ledger.proofs.Twins.{Twin, Ledgers, turned, colours_twin, reach_shared, latest_twin}

-- at most one refusal denies a window
denies_one : (s : Setting) (corner : Cell) (width height : ℤ) (palette output : ℕ) (r t : WindowRefused) → Denies s corner width height palette output r → Denies s corner width height palette output t → r ≡ t
denies_one s corner width height palette output Side Side h k = refl
denies_one s corner width height palette output Side OffSpan h k = absurd (h k.0)
denies_one s corner width height palette output Side Palette h k = absurd (h k.0)
denies_one s corner width height palette output Side Output h k = absurd (h k.0)
denies_one s corner width height palette output OffSpan Side h k = absurd (k h.0)
denies_one s corner width height palette output OffSpan OffSpan h k = refl
denies_one s corner width height palette output OffSpan Palette h k = absurd (h.1 k.1)
denies_one s corner width height palette output OffSpan Output h k = absurd (h.1 k.1)
denies_one s corner width height palette output Palette Side h k = absurd (k h.0)
denies_one s corner width height palette output Palette OffSpan h k = absurd (k.1 h.1)
denies_one s corner width height palette output Palette Palette h k = refl
denies_one s corner width height palette output Palette Output h k = absurd (h.2 k.2)
denies_one s corner width height palette output Output Side h k = absurd (k h.0)
denies_one s corner width height palette output Output OffSpan h k = absurd (k.1 h.1)
denies_one s corner width height palette output Output Palette h k = absurd (k.2 h.2)
denies_one s corner width height palette output Output Output h k = refl

module _ (m : Meaning) (cl : Classes m) where
  inked_twin : (L M : Ledger) → Ledgers m L M → (q : Cell) → Inked m.operations L q → Inked m.operations M q
  inked_twin L M e q t = let r = latest_twin m cl (λ p. Carried m.operations p q) (reach_shared m cl q) L M t.0 e t.1 in (r.0, r.1, colours_twin m t.0 r.0 r.2 t.2)

  makes_twin : (L M : Ledger) → Ledgers m L M → (ts : List Cell) → Makes m.operations L ts → Makes m.operations M ts
  makes_twin L M e ts h q = (λ t. inked_twin L M e q ((h q).0 t), λ i. (h q).1 (inked_twin M L (turned m cl L M e) q i))

  -- each count is at most the other
  pub fewest_twin : (L M : Ledger) → Ledgers m L M → (x y : ℕ) → Fewest m.operations L x → Fewest m.operations M y → x ≡ y
  fewest_twin L M e x y h k =
      let a : x ≤ length k.some.0 = h.least k.some.0 (makes_twin M L (turned m cl L M e) k.some.0 k.some.2) in
      let b : y ≤ length h.some.0 = k.least h.some.0 (makes_twin L M e h.some.0 h.some.2) in
      omega (arith, h.some.3, k.some.3)

  -- from the latest entry to its twin, and on to the cell
  shows_twin : (L M : Ledger) → Ledgers m L M → (q : Cell) (x y : ℕ) → Shows m.operations L q x → Shows m.operations M q y → x ≡ y
  shows_twin L M e q x y (inl h) (inl k) =
      let r = latest_twin m cl (λ p. Carried m.operations p q) (reach_shared m cl q) L M h.0 e h.1 in
      let n : Entry = k.0 in
      let ink : ℕ = h.0.mark.ink in
      let same : r.0 ≡ n = latest_unique (λ p. Carried m.operations p q) M r.0 n r.1 k.1 in
      let t : Twin m h.0 n = subst (λ (z : Entry). Twin m h.0 z) same r.2 in
      let onto : Carried m.operations n.cell q = latest_has (λ p. Carried m.operations p q) M n k.1 in
      let whole = cl.next t.0 onto.0.odd h.0.cell n.cell q t.1.goes (goes_of onto) in
      h.2 whole.0 whole.1 whole.2 ∙ ap (λ b. tinted b ink) whole.3 ∙ sym (tinted-tinted onto.0.odd t.0 ink) ∙ ap (λ (k : Mark). tinted onto.0.odd k.ink) (sym t.1.marks) ∙ sym (k.2 onto.0 onto.1 onto.2)
  shows_twin L M e q x y (inl h) (inr k) =
      let r = latest_twin m cl (λ p. Carried m.operations p q) (reach_shared m cl q) L M h.0 e h.1 in
      absurd (untouched_latest (λ p. Carried m.operations p q) M r.0 k.0 r.1)
  shows_twin L M e q x y (inr h) (inl k) =
      let r = latest_twin m cl (λ p. Carried m.operations p q) (reach_shared m cl q) M L k.0 (turned m cl L M e) k.1 in
      absurd (untouched_latest (λ p. Carried m.operations p q) L r.0 h.0 r.1)
  shows_twin L M e q x y (inr h) (inr k) = h.1 ∙ sym k.1

  pixels_twin : (L M : Ledger) → Ledgers m L M → (palette : List ℕ) (qs : List Cell) (xs ys : List ℕ) → Pixels m.operations L palette qs xs → Pixels m.operations M palette qs ys → xs ≡ ys
  pixels_twin L M e palette [] xs ys h k = h ∙ sym k
  pixels_twin L M e palette (q ∷ qs) xs ys h k =
      h.3 ∙ ap₂ (λ (n : ℕ) (zs : List ℕ). colour palette n ++ zs) (shows_twin L M e q h.0 k.0 h.2 k.2) (pixels_twin L M e palette qs h.1 k.1 h.4 k.4) ∙ sym k.3

  module _ (frame : Cell → Bool) (L M : Ledger) (twins : Ledgers m L M) where
    abbrev here : Setting
    here = setting m frame

    pub shows_at_twin : (q : Cell) (x y : Result ℕ FoldRefused) → ShowsAt here L q x → ShowsAt here M q y → x ≡ y
    shows_at_twin q x y (inl h) (inl k) = h.1.2 ∙ ap (λ (n : ℕ). Ok n) (shows_twin L M twins q h.1.0 k.1.0 h.1.1 k.1.1) ∙ sym k.1.2
    shows_at_twin q x y (inl h) (inr k) = absurd (k.0 h.0)
    shows_at_twin q x y (inr h) (inl k) = absurd (h.0 k.0)
    shows_at_twin q x y (inr h) (inr k) = h.1 ∙ sym k.1

    -- one window of twin ledgers, with outputs of one length: one answer, and from equal outputs equal outputs
    pub paints_twin : (corner : Cell) (width height : ℤ) (palette before before' after after' : List ℕ) (x y : Result ℕ WindowRefused) → length before ≡ length before' → Paints here L corner width height palette before after x → Paints here M corner width height palette before' after' y → (x ≡ y) × (before ≡ before' → after ≡ after')
    paints_twin corner width height palette before before' after after' x y long (inl h) (inl k) =
        let r : h.0 ≡ k.0 = denies_one here corner width height (length palette) (length before') h.0 k.0 (subst (λ n. Denies here corner width height (length palette) n h.0) long h.1) k.1 in
        (h.3 ∙ ap (λ (z : WindowRefused). Err z) r ∙ sym k.3, λ e. h.2 ∙ e ∙ sym k.2)
    paints_twin corner width height palette before before' after after' x y long (inl h) (inr k) = absurd (k.0 h.0 (subst (λ n. Denies here corner width height (length palette) n h.0) long h.1))
    paints_twin corner width height palette before before' after after' x y long (inr h) (inl k) = absurd (h.0 k.0 (subst (λ n. Denies here corner width height (length palette) n k.0) (sym long) k.1))
    paints_twin corner width height palette before before' after after' x y long (inr h) (inr k) =
        let r = pixels_twin L M twins palette (window_cells corner (nat_abs width) (nat_abs height)) h.1.0 k.1.0 h.1.1 k.1.1 in
        (h.1.3 ∙ ap (λ (zs : List ℕ). Ok (length (header (nat_abs width) (nat_abs height) ++ zs))) r ∙ sym k.1.3, λ e. h.1.2 ∙ ap₂ (λ (zs ws : List ℕ). written_over (header (nat_abs width) (nat_abs height) ++ zs) ws) r e ∙ sym k.1.2)
