-- The ink that a ledger leaves at each home, and a board that follows the ledger.
use Rattle.std.proofs.Common.{◌≡◌, ℕ, ◌<◌, false, cond, ◌⊎◌, ◌↔◌, [], ◌∷◌, sym, refl, ◌∙◌, subst, inl, inr, arith}
use Rattle.std.proofs.lemmas.Bool.{cond-true, cond-false}
use Rattle.plane.specs.declared.cell.Cell.{Cell}
use Rattle.plane.specs.Cells.{same}
use Rattle.plane.specs.Meaning.{Meaning}
use Rattle.canvas.proofs.Sameness.{Decided, same_decides}
use Rattle.sheet.specs.Laying.{home_ink}
use Rattle.ledger.specs.Ledgers.{Entry, Ledger, Latest, Untouched, Colours}
use Rattle.ledger.specs.Feeding.{Taken}
use Rattle.ledger.proofs.Inks.{tinted_colours, colours_tinted}
use Rattle.ledger.proofs.Classes.{flips}
use Rattle.ledger.proofs.Entries.{Sound, latest_unique, untouched_latest}

-- the ink that an entry leaves at its home
abbrev pub leaves : Meaning → Entry → ℕ
leaves m e = home_ink m e.cell e.mark

-- the ink that the ledger leaves at a home
abbrev pub left_at : Meaning → Ledger → Cell → ℕ
left_at m [] h = 0
left_at m (e ∷ L) h = cond (same h (m.home e.cell)) (leaves m e) (left_at m L h)

-- the latest entry of a home's class, or none
abbrev pub At : Meaning → Ledger → Cell → Type 0
At m L h =
    ((l : Entry) × Latest (λ p. m.home p ≡ h) L l × (left_at m L h ≡ leaves m l))
    ⊎ (Untouched (λ p. m.home p ≡ h) L × (left_at m L h ≡ 0))

pub at_home : (m : Meaning) (L : Ledger) (h : Cell) → At m L h
at_home m [] h = inr (tt, refl)
at_home m (e ∷ L) h = step (same_decides h (m.home e.cell)) (at_home m L h)
  where
    later : (same h (m.home e.cell) ≡ false) × (h ≡ m.home e.cell → ⊥) → At m L h → At m (e ∷ L) h
    later d (inl t) = inl (t.0, inr (λ x. d.1 (sym x), t.1), cond-false _ _ _ d.0 ∙ t.2)
    later d (inr t) = inr ((λ x. d.1 (sym x), t.0), cond-false _ _ _ d.0 ∙ t.1)

    step : Decided h (m.home e.cell) (same h (m.home e.cell)) → At m L h → At m (e ∷ L) h
    step (inl d) below = inl (e, inl (sym d.1, refl), cond-true _ _ _ d.0)
    step (inr d) below = later d below

-- a board whose inks are those that the ledger leaves
pub record Follows (m : Meaning) (L : Ledger) (inks : Cell → ℕ) : Type 0 where
  pub sound : Sound m L
  pub left : (h : Cell) → inks h ≡ left_at m L h

-- the cells that such a board holds are the homes taken
pub held_taken : (m : Meaning) (L : Ledger) (inks : Cell → ℕ) → Follows m L inks → (h : Cell) → (0 < inks h) ↔ Taken m.home L h
held_taken m L inks follows h = (λ k. forth (at_home m L h) k, λ t. back (at_home m L h) t)
  where
    forth : At m L h → 0 < inks h → Taken m.home L h
    forth (inl t) k = (t.0, t.1, colours_tinted (flips m t.0.cell) t.0.mark.ink (subst (λ n. 0 < n) (follows.left h ∙ t.2) k))
    forth (inr t) k = absurd (let z : inks h ≡ 0 = follows.left h ∙ t.1 in omega arith)

    back : At m L h → Taken m.home L h → 0 < inks h
    back (inl t) u =
        let e : t.0 ≡ u.0 = latest_unique _ L t.0 u.0 t.1 u.1 in
        let k : 0 < t.0.mark.ink = subst (λ (l : Entry). Colours l.mark) (sym e) u.2 in
        subst (λ n. 0 < n) (sym (follows.left h ∙ t.2)) (tinted_colours (flips m t.0.cell) t.0.mark.ink k)
    back (inr t) u = absurd (untouched_latest _ L u.0 t.0 u.1)
