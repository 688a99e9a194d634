use Rattle.std.proofs.Common.{Some, refl}
use Rattle.views.specs.Shows.{shown_ink}
use Rattle.history.specs.Histories.{Lent}
use Rattle.history.proofs.TwinRuns.{both_agree}
use Rattle.history.proofs.replay.replay_both.Goals as goal

pub returns : goal.returns
returns g c frames seats calls views lengths =
    let m = g.S.Symmetry.meaning c.args.symmetry.now in
    let b = g.C.Canvas.board c.args.canvas.now in
    let d = g.C.Canvas.board c.args.other_canvas.now in
    let lent : Lent = record { palette = c.args.palette.now; before = c.args.output.now; after = c.replay.new.output } in
    let other : Lent = record { palette = c.args.palette.now; before = c.args.other_output.now; after = c.replay-2.new.output } in
    both_agree m b.frame d.frame b.seats d.seats lent other c.args.drawing.now c.args.other_drawing.now c.replay.new.drawing c.replay-2.new.drawing (Some c.args.viewing.now) (Some c.args.other_viewing.now) _ _ (shown_ink m (g.C.Canvas.board c.replay-2.new.canvas)) frames seats calls views refl lengths c.replay.ensures.drawing c.replay-2.ensures.drawing c.replay.ensures.viewing c.replay-2.ensures.viewing c.replay-2.ensures.told c.replay.ensures.twins
