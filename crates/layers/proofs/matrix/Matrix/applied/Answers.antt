use Rattle.std.proofs.Common.{arith, lit≤}
use Rattle.layers.specs.Fairness.{small_is, held}
use Rattle.layers.proofs.matrix.Matrix.applied.Goals as goal

pub dot-requires-2 : goal.dot-requires-2
dot-requires-2 c =
    let w = c.args.self in
    let h = small_is w c.requires.0 in
    (held w.c 1_000_000 (omega (arith, h.c)) (lit≤ tt), held c.args.at.x 1_000_000_000_000 c.requires.1.0 (lit≤ tt), held w.d 1_000_000 (omega (arith, h.d)) (lit≤ tt), held c.args.at.y 1_000_000_000_000 c.requires.1.1 (lit≤ tt))
