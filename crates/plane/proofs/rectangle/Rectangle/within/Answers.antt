use Rattle.std.proofs.Common.{sym, ◌∙◌, arith}
use Rattle.plane.proofs.Corners.{corner_near}
use Rattle.plane.proofs.Rectangles.{all_within}
use Rattle.plane.proofs.rectangle.Rectangle.within.Goals as goal

pub invariant_of-result-clause-near : goal.invariant_of-result-clause-near
invariant_of-result-clause-near c =
    let n = corner_near c.args.span c.args.self.corner c.in_ok-width.width c.in_ok-height.height c.in_ok-width.ensures.bounds.0 c.in_ok-height.ensures.bounds.0 (all_within c.args.span _ (sym c.covers.ensures ∙ c.if-not-covers.false)) in
    let f = c.ranges.span.fits in
    (omega (arith, f, n.0), omega (arith, f, n.1))
