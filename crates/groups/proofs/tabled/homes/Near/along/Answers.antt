use Rattle.std.proofs.Common.{◌≡◌, ◌/◌, ◌≤◌, pos, ◌+ℤ◌, ◌*ℤ◌, nat_abs, rules, sym, ◌∙◌, subst, ap₂, to_z, of_z, w64}
use Rattle.ints.proofs.Sizes.{sum_fits, sum_is}
use Rattle.groups.proofs.Sizes.{linear_bound, shift_bound}
use Rattle.groups.proofs.tabled.homes.Near.along.Goals as goal

-- the two terms, by their values and their sizes
linear : (c : goal.After-from-2) → c.dot.result ≡ c.args.a *ℤ c.args.self.at.x +ℤ c.args.b *ℤ c.args.self.at.y
linear c = search rules

shift : (c : goal.After-from-2) → to_z w64 (of_z w64 c.from.result) *ℤ to_z w64 (of_z w64 c.from-2.result) ≡ c.args.halves *ℤ pos (c.args.period / 2)
shift c = search rules

near : (c : goal.After-from-2) → nat_abs c.dot.result ≤ 1_000_000_000_000_000_000
near c = subst (λ z. nat_abs z ≤ 1_000_000_000_000_000_000) (sym (linear c)) (linear_bound c.args.a c.args.self.at.x c.args.b c.args.self.at.y c.ranges.a c.args.self.near.0 c.ranges.b c.args.self.near.1)

short : (c : goal.After-from-2) → nat_abs (to_z w64 (of_z w64 c.from.result) *ℤ to_z w64 (of_z w64 c.from-2.result)) ≤ 1_000_000_000_000_000_000
short c = subst (λ z. nat_abs z ≤ 1_000_000_000_000_000_000) (sym (shift c)) (shift_bound c.args.halves c.args.period c.ranges.halves c.requires)

pub overflow_add-result : goal.overflow_add-result
overflow_add-result c = sum_fits c.dot.result (to_z w64 (of_z w64 c.from.result) *ℤ to_z w64 (of_z w64 c.from-2.result)) (near c) (short c)

pub returns : goal.returns
returns c =
    sum_is c.dot.result (to_z w64 (of_z w64 c.from.result) *ℤ to_z w64 (of_z w64 c.from-2.result)) (near c) (short c) ∙ ap₂ ◌+ℤ◌ (linear c) (shift c)
