use Rattle.std.proofs.Common.{◌≡◌, ℕ, ◌+◌, List, Option, MatchOption, subst, rules, tests, refl}
use Rattle.std.specs.Str.{bytes_eq}
use Rattle.std.proofs.lemmas.Iterator.{YieldsList-from_slice}
use Rattle.std.proofs.lemmas.Iterator.Search.{position_from_yields_List}
use Rattle.groups.specs.Symbols.{symbols, number_named}
use Rattle.groups.proofs.Naming.{named}
use Rattle.groups.proofs.plane_group.PlaneGroup.named.Goals as goal
use Rattle.groups.proofs.plane_group.PlaneGroup.named.Goals.{After-position}

-- what the search found
abbrev Found : Option ℕ → List ℕ → Type 0
Found r s = MatchOption r (number_named s ≡ 0) (λ i. i + 1 ≡ number_named s)

found : (c : After-position) → Found c.position.result c.args.text.now
unfolding symbols
found c =
    let is = position_from_yields_List (λ s. bytes_eq s.now c.args.text.now) _ _ c.position.result c.position.ensures.ran (YieldsList-from_slice _ c.iter.ensures.rest) (λ x b q k. search (rules, tests)) in
    named _ _ c.args.text.now c.position.result c.iter.ensures.rest is refl

pub returns-in_err-index : goal.returns-in_err-index
returns-in_err-index c =
    let h : number_named c.args.text.now ≡ 0 = subst (λ (r : Option ℕ). Found r c.args.text.now) c.in_err-index.was (found (goal.at.returns-in_err-index c).After-position) in
    search rules

pub returns : goal.returns
returns c = subst (λ (r : Option ℕ). Found r c.args.text.now) c.in_ok-index.was (found (goal.at.returns c).After-position)
