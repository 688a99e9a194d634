use Rattle.std.proofs.Common.{◌≡◌, ◌/◌, ◌%◌, ℤ, pos, ◌-ℤ◌, ◌*ℤ◌, rules, sym, ap, ◌∙◌, subst, arith, to_z, of_z, w64}
use Rattle.ints.proofs.Sizes.{difference_is}
use Rattle.lattice.specs.Bounds.{Bounded}
use Rattle.lattice.specs.Euclid.{next_bounded}
use Rattle.lattice.proofs.reduced.Pair.next.Goals as goal
use Rattle.lattice.proofs.reduced.Pair.next.Goals.{After-product}

-- the column of the rest
column : (c : After-product) → to_z w64 (of_z w64 (to_z w64 (of_z w64 c.args.self.first.x) -ℤ to_z w64 (of_z w64 c.product.result))) ≡ c.args.self.first.x -ℤ pos (c.args.self.first.y / c.args.self.second.y) *ℤ c.args.self.second.x
column c =
    let s = c.args.self in
    let e : c.product.result ≡ pos (s.first.y / s.second.y) *ℤ s.second.x = search rules in
    difference_is s.first.x c.product.result (omega (arith, s.bounded.near.0)) c.product.ensures.bound ∙ ap (λ z. s.first.x -ℤ z) e

pub invariant_of-result : goal.invariant_of-result
invariant_of-result c =
    let s = c.args.self in
    let e = column (goal.at.invariant_of-result c).After-product in
    record { bounded = subst (λ (x : ℤ). Bounded s.second.x s.second.y x (s.first.y % s.second.y)) (sym e) (next_bounded s.first.x s.first.y s.second.x s.second.y c.requires s.bounded) }

pub returns-clause-second : goal.returns-clause-second
returns-clause-second c = let s = c.args.self in let e = column (goal.at.returns-clause-second c).After-product in λ i. record { x = e i; y = s.first.y % s.second.y }
