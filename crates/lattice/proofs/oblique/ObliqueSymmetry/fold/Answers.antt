use Rattle.std.proofs.Common.{◌≤◌, nat_abs, sym, ◌∙◌, mul_comm, arith}
use Rattle.plane.proofs.Folding.{inside_within}
use Rattle.lattice.specs.Lattice.{area}
use Rattle.lattice.specs.Reduction.{reduction}
use Rattle.lattice.specs.Sizes.{small_is, area_some, area_bound, factor_at_most}
use Rattle.lattice.specs.Euclid.{reduces}
use Rattle.lattice.proofs.oblique.ObliqueSymmetry.fold.Goals as goal

pub home-requires : goal.home-requires
home-requires c =
    let s = c.args.self.now in
    let v = s.vectors in
    let t = reduction v in
    let r = reduces v (area_some v s.apart) in
    let bound = area_bound v (small_is v s.short) in
    let wide : t.p ≤ nat_abs (area v) = factor_at_most t.p t.d (nat_abs (area v)) r.height r.size in
    let high : t.d ≤ nat_abs (area v) = factor_at_most t.d t.p (nat_abs (area v)) (omega (arith, r.below)) (mul_comm t.d t.p ∙ r.size) in
    let f = s.found in (
      omega (arith, f.0, f.1, r.below),
      omega (arith, f.0, wide, bound),
      omega (arith, f.2, r.height),
      omega (arith, f.2, high, bound),
      inside_within 1_000_000 c.args.at (sym c.if-not-is_within.ensures),
    )
