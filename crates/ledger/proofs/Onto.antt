-- Cells that operations carry onto one another, by their parities.
use Rattle.std.proofs.Common.{◌≡◌, ℕ, Bool, true, false, ◌⊎◌, ◌↔◌, sym, refl, ap, ◌∙◌, subst, inl, inr}
use Rattle.plane.specs.declared.cell.Cell.{Cell}
use Rattle.plane.specs.Cells.{Within}
use Rattle.plane.specs.Operation.{Operation, xor}
use Rattle.plane.specs.Meaning.{Meaning}
use Rattle.plane.specs.Laws.{Carried, Neutral}
use Rattle.canvas.specs.Inks.{counterpart}
use Rattle.views.specs.Tints.{tinted}
use Rattle.ledger.proofs.Inks.{tinted_own}
use Rattle.ledger.proofs.Classes.{Goes, flips, Classes}

abbrev pub carried_of : {ops : Operation → Type 0} {a : Bool} {p q : Cell} → Goes ops a p q → Carried ops p q
carried_of t = (t.0, t.1, t.2)

abbrev pub goes_of : {ops : Operation → Type 0} {p q : Cell} (t : Carried ops p q) → Goes ops t.0.odd p q
goes_of t = (t.0, t.1, t.2, refl)

-- two parities that differ make an odd one
xor_cases : (a b : Bool) → (xor a b ≡ true) ⊎ (a ≡ b)
xor_cases true true = inr refl
xor_cases true false = inl refl
xor_cases false true = inl refl
xor_cases false false = inr refl

module _ (m : Meaning) (cl : Classes m) where
  pub carried_next : (p q r : Cell) → Carried m.operations p q → Carried m.operations q r → Carried m.operations p r
  carried_next p q r s t = carried_of (cl.next _ _ p q r (goes_of s) (goes_of t))

  pub carried_back : (p q : Cell) → Carried m.operations p q → Carried m.operations q p
  carried_back p q s = carried_of (cl.back _ p q (goes_of s))

  pub to_home : (p : Cell) → Within m.span p → Carried m.operations p (m.home p)
  to_home p w = carried_of (cl.homeward p w)

  -- cells in the span with one home go to one another by way of it
  pub across : (p q : Cell) → Within m.span p → Within m.span q → m.home p ≡ m.home q → Goes m.operations (xor (flips m p) (flips m q)) p q
  across p q wp wq e =
      cl.next (flips m p) (flips m q) p (m.home p) q (cl.homeward p wp) (subst (λ h. Goes m.operations (flips m q) h q) (sym e) (cl.back (flips m q) q (m.home q) (cl.homeward q wq)))

  pub one_class : (p q : Cell) → Within m.span p → Within m.span q → (m.home p ≡ m.home q) ↔ Carried m.operations p q
  one_class p q wp wq = (λ e. carried_of (across p q wp wq e), λ c. cl.one_home p q wp wq c)

  -- an ink that a cell may have shows the same by every operation from that cell onto q
  pub one_show : (p q : Cell) (ink : ℕ) (a b : Bool) → (Neutral m.operations p → counterpart ink ≡ ink) → Goes m.operations a p q → Goes m.operations b p q → tinted a ink ≡ tinted b ink
  one_show p q ink a b fair s t = step (xor_cases a b) (cl.next a b p q p s (cl.back b p q t))
    where
      step : (xor a b ≡ true) ⊎ (a ≡ b) → Goes m.operations (xor a b) p p → tinted a ink ≡ tinted b ink
      step (inl e) n =
          let f : counterpart ink ≡ ink = fair (n.0, n.1, n.2, n.3 ∙ e) in
          tinted_own a ink f ∙ sym (tinted_own b ink f)
      step (inr e) n = ap (λ c. tinted c ink) e
