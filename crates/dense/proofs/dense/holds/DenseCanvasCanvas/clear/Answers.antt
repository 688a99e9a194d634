use Rattle.std.proofs.Common.{ap, ◌∙◌}
use Rattle.dense.specs.Making.{zeroed}
use Rattle.dense.proofs.Wipes.{Empty, wiped}
use Rattle.dense.proofs.dense.holds.DenseCanvasCanvas.clear.Goals as goal
use Rattle.dense.proofs.dense.holds.DenseCanvasCanvas.clear.Goals.{After-wipe}

-- no cell is held
empty : (c : goal.After-wipe) → Empty c.args.self.now.area c.args.self.now.bytes.now c.args.self.now.held c.wipe.new.bytes
empty c =
    let s = c.args.self.now in
    wiped s.area s.bytes.now s.held c.wipe.new.bytes s.long (c.wipe.ensures ∙ ap (λ n. zeroed n s.bytes.now) c.size.ensures)

pub invariant_of-self : goal.invariant_of-self
invariant_of-self c =
    let w = empty (goal.at.invariant_of-self c).After-wipe in
    record { long = w.long; small = w.small; counted = w.counted }

pub returns-clause-after : goal.returns-clause-after
returns-clause-after c = (empty (goal.at.returns-clause-after c).After-wipe).board
