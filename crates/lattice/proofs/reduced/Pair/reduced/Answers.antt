use Rattle.std.proofs.Common.{ap, ◌∙◌, arith}
use Rattle.lattice.specs.declared.reduced.Upright.{Upright}
use Rattle.lattice.specs.Reduction.{euclid}
use Rattle.lattice.specs.Euclid.{no_more, next_is}
use Rattle.lattice.proofs.reduced.Pair.reduced.Goals as goal

pub loop-pair-preserved : goal.loop-pair-preserved
loop-pair-preserved c =
    let p = c.loop-pair.pair in
    let n = c.next-pair.result in
    ap (λ (r : Upright). euclid n.second.y r.x r.y n.second.x n.second.y) c.next-pair.ensures.first
    ∙ ap (λ (r : Upright). euclid r.y p.second.x p.second.y r.x r.y) c.next-pair.ensures.second
    ∙ next_is p.first.x p.first.y p.second.x p.second.y c.loop-pair-test.true ∙ c.loop-pair.invariant

pub returns : goal.returns
returns c =
    let p = c.loop-pair.pair in
    c.finish.ensures ∙ no_more p.first.x p.first.y p.second.x p.second.y (omega arith) ∙ c.loop-pair.invariant
