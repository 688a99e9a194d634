use Rattle.plane.proofs.Algebra.{same-cell}
use Rattle.layers.specs.Fairness.{short_is, added}
use Rattle.layers.proofs.vector.Vector.moved.Goals as goal

pub returns : goal.returns
returns c =
    let w = c.args.self in
    let h = short_is w c.requires.0 in
    same-cell (added c.args.at.x w.u c.requires.1.0 h.u) (added c.args.at.y w.v c.requires.1.1 h.v)
