use Rattle.std.proofs.Common.{◌≡◌, nat_abs, rules, sym, subst}
use Rattle.lattice.specs.declared.reduced.Upright.{Upright}
use Rattle.lattice.specs.Bounds.{Bounded}
use Rattle.lattice.specs.Reduction.{upright}
use Rattle.lattice.specs.Sizes.{small_is, area_some, bounded_start}
use Rattle.lattice.proofs.reduced.Pair.of.Goals as goal

pub invariant_of-result : goal.invariant_of-result
invariant_of-result c =
    let v = c.args.vectors in
    let b = c.of-2.result in
    let first : c.of.result ≡ record { x = upright v.ax v.ay; y = nat_abs v.ay } = search rules in
    let second : b ≡ record { x = upright v.bx v.by; y = nat_abs v.by } = search rules in
    record {
      bounded = subst (λ (r : Upright). Bounded r.x r.y b.x b.y) (sym first)
          (subst (λ (r : Upright). Bounded (upright v.ax v.ay) (nat_abs v.ay) r.x r.y) (sym second) (bounded_start v (small_is v c.requires.0) (area_some v c.requires.1)));
    }
