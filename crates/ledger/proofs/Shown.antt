-- A board that follows a ledger shows, at each cell in the span, what the ledger tells.
use Rattle.std.proofs.Common.{◌≡◌, ℕ, refl, ap, ◌∙◌, inl, inr}
use Rattle.plane.specs.declared.cell.Cell.{Cell}
use Rattle.plane.specs.Cells.{Within}
use Rattle.plane.specs.Operation.{xor}
use Rattle.plane.specs.Meaning.{Meaning}
use Rattle.plane.specs.Laws.{Carried}
use Rattle.views.specs.Tints.{tinted}
use Rattle.ledger.specs.Ledgers.{Entry, Ledger}
use Rattle.ledger.specs.Planes.{Shows}
use Rattle.ledger.proofs.Inks.{tinted_bare, tinted-tinted}
use Rattle.ledger.proofs.Classes.{flips, Classes}
use Rattle.ledger.proofs.Onto.{across, one_class, one_show}
use Rattle.ledger.proofs.Entries.{Fair, latest_has, latest_fair, latest_like, untouched_like}
use Rattle.ledger.proofs.Homes.{At, at_home, Follows}

module _ (m : Meaning) (cl : Classes m) (L : Ledger) (inks : Cell → ℕ) (follows : Follows m L inks) where
  pub shows : (q : Cell) → Within m.span q → Shows m.operations L q (tinted (flips m q) (inks (m.home q)))
  shows q w = step (at_home m L (m.home q))
    where
      step : At m L (m.home q) → Shows m.operations L q (tinted (flips m q) (inks (m.home q)))
      step (inl t) =
          let l : Entry = t.0 in
          let ink : ℕ = l.mark.ink in
          let fair : Fair m l = latest_fair m _ L l follows.sound t.1 in
          let home : m.home l.cell ≡ m.home q = latest_has (λ p. m.home p ≡ m.home q) L l t.1 in
          let is : tinted (flips m q) (inks (m.home q)) ≡ tinted (xor (flips m l.cell) (flips m q)) ink = ap (tinted (flips m q)) (follows.left (m.home q) ∙ t.2) ∙ tinted-tinted (flips m q) (flips m l.cell) ink in
          inl (l, latest_like m (λ p. m.home p ≡ m.home q) (λ p. Carried m.operations p q) (λ e f. one_class m cl e.cell q f.0 w) L l follows.sound t.1, λ g in-set e. is ∙ one_show m cl l.cell q ink _ _ fair.1 (across m cl l.cell q fair.0 w home) (g, in-set, e, refl))
      step (inr t) =
          inr (untouched_like m (λ p. m.home p ≡ m.home q) (λ p. Carried m.operations p q) (λ e f. one_class m cl e.cell q f.0 w) L follows.sound t.0, ap (tinted (flips m q)) (follows.left (m.home q) ∙ t.1) ∙ tinted_bare (flips m q))
