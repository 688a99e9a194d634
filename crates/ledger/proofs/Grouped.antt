-- The laws of a symmetry give its classes.
use Rattle.std.proofs.Common.{◌≡◌, Bool, true, false, ◌⊎◌, ◌↔◌, sym, refl, ap, ◌∙◌, subst, ap₂, inl, inr}
use Rattle.std.proofs.lemmas.Bool.{cases_Bool, or_cases, or_left, or_right, and_parts, and_from, not_from_true, not_from_false, true≢false}
use Rattle.plane.specs.declared.cell.Cell.{Cell}
use Rattle.plane.specs.declared.kinds.Kinds.{Kinds}
use Rattle.plane.specs.Operation.{Operation, carry, compose, identity, Unimodular, xor}
use Rattle.plane.specs.Kinds.{has}
use Rattle.plane.specs.Meaning.{Meaning}
use Rattle.plane.specs.Laws.{Carried, CarriedAs, Neutral, Group, Lawful}
use Rattle.plane.proofs.Algebra.{carry-compose, carry-identity}
use Rattle.views.specs.Tints.{all_odd, neutral, any_even, any_odd}
use Rattle.ledger.proofs.Classes.{Goes, flips, Classes}

xor_comm : (a b : Bool) → xor a b ≡ xor b a
xor_comm true true = refl
xor_comm true false = refl
xor_comm false true = refl
xor_comm false false = refl

even_sum : (a b : Bool) → xor a b ≡ false → a ≡ b
even_sum true true e = refl
even_sum true false e = cc
even_sum false true e = cc
even_sum false false e = refl

module _ (ops : Operation → Type 0) (group : Group ops) where
  goes_stay : (p : Cell) → Goes ops false p p
  goes_stay p = (identity, group.unit, carry-identity p, refl)

  goes_next : (a b : Bool) (p q r : Cell) → Goes ops a p q → Goes ops b q r → Goes ops (xor a b) p r
  goes_next a b p q r s t =
      (compose t.0 s.0, group.closed t.0 s.0 t.1 s.1, carry-compose t.0 s.0 p ∙ ap (carry t.0) s.2 ∙ t.2, xor_comm t.0.odd s.0.odd ∙ ap₂ xor s.3 t.3)

  goes_back : (a : Bool) (p q : Cell) → Goes ops a p q → Goes ops a q p
  goes_back a p q s =
      let inv = group.inverse s.0 s.1 in
      (inv.0, inv.1, ap (carry inv.0) (sym s.2) ∙ sym (carry-compose inv.0 s.0 p) ∙ ap (λ (k : Operation). carry k p) inv.2 ∙ carry-identity p, even_sum inv.0.odd s.0.odd (ap (λ (k : Operation). k.odd) inv.2) ∙ s.3)

  -- a cell, its home, and the kinds of the operations between them
  module _ (p h : Cell) (k : Kinds) (exact : (odd flips : Bool) → (has k odd flips ≡ true) ↔ CarriedAs ops odd flips p h) where
    as_goes : (odd flips : Bool) → has k odd flips ≡ true → Goes ops odd p h
    as_goes odd flips e = let t = (exact odd flips).0 e in (t.0, t.1, t.2, t.3)

    even_goes : any_even k ≡ true → Goes ops false p h
    even_goes e = go (or_cases k.even_proper k.even_improper e)
      where
        go : (k.even_proper ≡ true) ⊎ (k.even_improper ≡ true) → Goes ops false p h
        go (inl f) = as_goes false false f
        go (inr f) = as_goes false true f

    odd_goes : any_odd k ≡ true → Goes ops true p h
    odd_goes e = go (or_cases k.odd_proper k.odd_improper e)
      where
        go : (k.odd_proper ≡ true) ⊎ (k.odd_improper ≡ true) → Goes ops true p h
        go (inl f) = as_goes true false f
        go (inr f) = as_goes true true f

    has-even : Goes ops false p h → any_even k ≡ true
    has-even t = go (group.unimodular t.0 t.1)
      where
        go : Unimodular t.0 → any_even k ≡ true
        go (inl d) = or_left k.even_proper k.even_improper ((exact false false).1 (t.0, t.1, t.2, t.3, d))
        go (inr d) = or_right k.even_proper k.even_improper ((exact false true).1 (t.0, t.1, t.2, t.3, d))

    has_odd : Goes ops true p h → any_odd k ≡ true
    has_odd t = go (group.unimodular t.0 t.1)
      where
        go : Unimodular t.0 → any_odd k ≡ true
        go (inl d) = or_left k.odd_proper k.odd_improper ((exact true false).1 (t.0, t.1, t.2, t.3, d))
        go (inr d) = or_right k.odd_proper k.odd_improper ((exact true true).1 (t.0, t.1, t.2, t.3, d))

    goes_home : Carried ops p h → Goes ops (all_odd k) p h
    goes_home c = go (cases_Bool (any_even k)) (cases_Bool c.0.odd)
      where
        go : (any_even k ≡ true) ⊎ (any_even k ≡ false) → (c.0.odd ≡ true) ⊎ (c.0.odd ≡ false) → Goes ops (all_odd k) p h
        go (inl e) o = subst (λ b. Goes ops b p h) (sym (not_from_true (any_even k) e)) (even_goes e)
        go (inr e) (inl o) = subst (λ b. Goes ops b p h) (sym (not_from_false (any_even k) e)) (c.0, c.1, c.2, o)
        go (inr e) (inr o) = absurd (true≢false (sym (has-even (c.0, c.1, c.2, o)) ∙ e))

    -- there by an odd operation and back by an even one
    both_neutral : neutral k ≡ true → Neutral ops p
    both_neutral n =
        let parts = and_parts (any_even k) (any_odd k) n in
        goes_next true false p h p (odd_goes parts.1) (goes_back false p h (even_goes parts.0))

    -- home as it stands, and once around first
    neutral_both : Carried ops p h → Neutral ops p → neutral k ≡ true
    neutral_both c n = go (cases_Bool c.0.odd)
      where
        go : (c.0.odd ≡ true) ⊎ (c.0.odd ≡ false) → neutral k ≡ true
        go (inl o) =
            let s : Goes ops true p h = (c.0, c.1, c.2, o) in
            and_from (any_even k) (any_odd k) (has-even (goes_next true true p p h n s)) (has_odd s)
        go (inr o) =
            let s : Goes ops false p h = (c.0, c.1, c.2, o) in
            and_from (any_even k) (any_odd k) (has-even s) (has_odd (goes_next true false p p h n s))

pub classes : (m : Meaning) → Lawful m → Classes m
classes m laws = record {
  stay = goes_stay m.operations laws.group;
  next = goes_next m.operations laws.group;
  back = goes_back m.operations laws.group;
  homeward = λ p w. goes_home m.operations laws.group p (m.home p) (m.kinds p) (laws.exact p w) (laws.carried p w);
  one_home = λ p q wp wq c. (laws.one_home p q wp wq).1 c;
  mixes = λ p w n. both_neutral m.operations laws.group p (m.home p) (m.kinds p) (laws.exact p w) n;
  mixed = λ p w n. neutral_both m.operations laws.group p (m.home p) (m.kinds p) (laws.exact p w) (laws.carried p w) n;
}
