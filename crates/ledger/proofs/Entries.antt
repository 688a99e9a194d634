-- The latest entry with a property: there is at most one, it has the property, and it depends only on which entries have it.
use Rattle.std.proofs.Common.{◌≡◌, ◌↔◌, [], ◌∷◌, sym, ◌∙◌, subst, inl, inr}
use Rattle.plane.specs.declared.cell.Cell.{Cell}
use Rattle.plane.specs.Cells.{Within}
use Rattle.plane.specs.Meaning.{Meaning}
use Rattle.plane.specs.Laws.{Neutral}
use Rattle.canvas.specs.Inks.{counterpart}
use Rattle.ledger.specs.Ledgers.{Entry, Ledger, Latest, Untouched}

pub latest_unique : (R : Cell → Type 0) (L : Ledger) (l m : Entry) → Latest R L l → Latest R L m → l ≡ m
latest_unique R [] l m h k = absurd h
latest_unique R (n ∷ L) l m (inl h) (inl k) = sym h.1 ∙ k.1
latest_unique R (n ∷ L) l m (inl h) (inr k) = absurd (k.0 h.0)
latest_unique R (n ∷ L) l m (inr h) (inl k) = absurd (h.0 k.0)
latest_unique R (n ∷ L) l m (inr h) (inr k) = latest_unique R L l m h.1 k.1

pub latest_has : (R : Cell → Type 0) (L : Ledger) (l : Entry) → Latest R L l → R l.cell
latest_has R [] l h = absurd h
latest_has R (n ∷ L) l (inl h) = subst (λ (k : Entry). R k.cell) h.1 h.0
latest_has R (n ∷ L) l (inr h) = latest_has R L l h.1

pub untouched_latest : (R : Cell → Type 0) (L : Ledger) (l : Entry) → Untouched R L → Latest R L l → ⊥
untouched_latest R [] l u h = h
untouched_latest R (n ∷ L) l u (inl h) = u.0 h.0
untouched_latest R (n ∷ L) l u (inr h) = untouched_latest R L l u.1 h.1

-- ---- ledgers of entries that are fair: within the span, and of their own counterpart's ink at a neutral cell
abbrev pub Fair : Meaning → Entry → Type 0
Fair m e = Within m.span e.cell × (Neutral m.operations e.cell → counterpart e.mark.ink ≡ e.mark.ink)

abbrev pub Sound : Meaning → Ledger → Type 0
Sound m [] = Unit {0}
Sound m (e ∷ L) = Fair m e × Sound m L

pub latest_fair : (m : Meaning) (R : Cell → Type 0) (L : Ledger) (l : Entry) → Sound m L → Latest R L l → Fair m l
latest_fair m R [] l s h = absurd h
latest_fair m R (n ∷ L) l s (inl h) = subst (Fair m) h.1 s.0
latest_fair m R (n ∷ L) l s (inr h) = latest_fair m R L l s.1 h.1

-- two properties that fair entries have alike
module _ (m : Meaning) (R S : Cell → Type 0) (alike : (e : Entry) → Fair m e → R e.cell ↔ S e.cell) where
  pub latest_like : (L : Ledger) (l : Entry) → Sound m L → Latest R L l → Latest S L l
  latest_like [] l s h = h
  latest_like (e ∷ L) l s (inl h) = inl ((alike e s.0).0 h.0, h.1)
  latest_like (e ∷ L) l s (inr h) = inr (λ x. h.0 ((alike e s.0).1 x), latest_like L l s.1 h.1)

  pub untouched_like : (L : Ledger) → Sound m L → Untouched R L → Untouched S L
  untouched_like [] s h = h
  untouched_like (e ∷ L) s h = (λ x. h.0 ((alike e s.0).1 x), untouched_like L s.1 h.1)
