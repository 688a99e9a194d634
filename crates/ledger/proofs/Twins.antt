-- Twin ledgers: entry by entry, an operation carries the one cell onto the other, and the mark with it.
use Rattle.std.proofs.Common.{◌≡◌, ℕ, suc, Bool, [], ◌∷◌, length, sym, refl, ap, ◌∙◌, subst, inl, inr}
use Rattle.plane.specs.declared.cell.Cell.{Cell}
use Rattle.plane.specs.Cells.{Within}
use Rattle.plane.specs.Meaning.{Meaning}
use Rattle.plane.specs.Laws.{Carried}
use Rattle.sheet.specs.declared.mark.Mark.{Mark}
use Rattle.ledger.specs.Ledgers.{Entry, Ledger, Latest, Colours, tinted_mark}
use Rattle.ledger.proofs.Inks.{tinted_colours, tinted_twice}
use Rattle.ledger.proofs.Classes.{Goes, Classes}
use Rattle.ledger.proofs.Onto.{carried_of, carried_next, carried_back}

module _ (m : Meaning) where
  -- two marked cells, the one carried onto the other with this parity
  pub record Pair (p q : Cell) (i j : Mark) (a : Bool) : Type 0 where
    pub from : Within m.span p
    pub to : Within m.span q
    pub goes : Goes m.operations a p q
    pub marks : j ≡ tinted_mark a i

  abbrev pub Twin : Entry → Entry → Type 0
  Twin e f = (a : Bool) × Pair e.cell f.cell e.mark f.mark a

  abbrev pub Ledgers : Ledger → Ledger → Type 0
  Ledgers [] [] = Unit {0}
  Ledgers [] (f ∷ M) = ⊥
  Ledgers (e ∷ L) [] = ⊥
  Ledgers (e ∷ L) (f ∷ M) = Twin e f × Ledgers L M

  pub as_long : (L M : Ledger) → Ledgers L M → length L ≡ length M
  as_long [] [] h = refl
  as_long [] (n ∷ M) h = absurd h
  as_long (m ∷ L) [] h = absurd h
  as_long (m ∷ L) (n ∷ M) h = ap suc (as_long L M h.1)

  pub colours_twin : (e f : Entry) → Twin e f → Colours e.mark → Colours f.mark
  colours_twin e f t h = subst (λ (k : Mark). Colours k) (sym t.1.marks) (tinted_colours t.0 e.mark.ink h)

  module _ (cl : Classes m) where
    -- twins the other way round
    pub flipped : (p q : Cell) (i j : Mark) (a : Bool) → Pair p q i j a → Pair q p j i a
    flipped p q i j a h = record {
      from = h.to;
      to = h.from;
      goes = cl.back a p q h.goes;
      marks = sym (ap (tinted_mark a) h.marks ∙ ap (λ (n : ℕ). record { ink = n }) (tinted_twice a i.ink));
    }

    pub turned : (L M : Ledger) → Ledgers L M → Ledgers M L
    turned [] [] h = tt
    turned [] (f ∷ M) h = h
    turned (e ∷ L) [] h = h
    turned (e ∷ L) (f ∷ M) h = ((h.0.0, flipped e.cell f.cell e.mark f.mark h.0.0 h.0.1), turned L M h.1)

    pub pair_home : (p q : Cell) (i j : Mark) (a : Bool) → Pair p q i j a → m.home p ≡ m.home q
    pair_home p q i j a w = cl.one_home p q w.from w.to (carried_of w.goes)

    -- a property that a cell in the span shares with its images there
    abbrev pub Shared : (Cell → Type 0) → Type 0
    Shared R = (p q : Cell) → Within m.span p → Within m.span q → Carried m.operations p q → R p → R q

    pub home_shared : (h : Cell) → Shared (λ p. m.home p ≡ h)
    home_shared h p q wp wq c e = sym (cl.one_home p q wp wq c) ∙ e

    pub reach_shared : (z : Cell) → Shared (λ p. Carried m.operations p z)
    reach_shared z p q wp wq c e = carried_next m cl q p z (carried_back m cl p q c) e

    -- the latest entries with a shared property are twins
    pub latest_twin : (R : Cell → Type 0) → Shared R → (L M : Ledger) (l : Entry) → Ledgers L M → Latest R L l → (k : Entry) × Latest R M k × Twin l k
    latest_twin R same [] M l h t = absurd t
    latest_twin R same (e ∷ L) [] l h t = absurd h
    latest_twin R same (e ∷ L) (f ∷ M) l h (inl t) =
        let w = h.0.1 in
        (f, inl (same e.cell f.cell w.from w.to (carried_of w.goes) t.0, refl), subst (λ (k : Entry). Twin k f) t.1 h.0)
    latest_twin R same (e ∷ L) (f ∷ M) l h (inr t) =
        let w = h.0.1 in
        let r = latest_twin R same L M l h.1 t.1 in
        (r.0, inr (λ x. t.0 (same f.cell e.cell w.to w.from (carried_back m cl e.cell f.cell (carried_of w.goes)) x), r.1), r.2)
