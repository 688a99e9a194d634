use Rattle.std.proofs.Common.{◌≡◌, nat_abs, Ok, sym, ap, ◌∙◌, subst}
use Rattle.lattice.specs.declared.reduced.Upright.{Upright}
use Rattle.lattice.specs.Lattice.{refusal}
use Rattle.lattice.specs.Reduction.{Reduces, upright, euclid, reduction}
use Rattle.lattice.specs.Sizes.{area_some}
use Rattle.lattice.specs.Euclid.{reduces}
use Rattle.lattice.proofs.Accepting.{accepted, answered}
use Rattle.lattice.proofs.reduced.reduce.Goals as goal

found : (c : goal.After-reduced) → c.reduced.result ≡ reduction c.args.vectors
unfolding reduction
found c =
    let v = c.args.vectors in
    let b = c.of.result.second in
    c.reduced.ensures
    ∙ ap (λ (r : Upright). euclid b.y r.x r.y b.x b.y) c.of.ensures.first
    ∙ ap (λ (r : Upright). euclid r.y (upright v.ax v.ay) (nat_abs v.ay) r.x r.y) c.of.ensures.second

pub returns : goal.returns
returns c =
    let v = c.args.vectors in
    let told = c.in_ok-check.ensures in
    record {
      outcome = ap Ok (found c) ∙ answered (refusal v) told (reduction v);
      reduces = subst (Reduces v) (sym (found c)) (reduces v (area_some v (accepted v told).1));
    }
