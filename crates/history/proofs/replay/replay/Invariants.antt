use Rattle.std.proofs.Common.{◌≡◌, map, take}
use Rattle.history.specs.declared.calls.Answered.{Answered}
use Rattle.history.specs.declared.calls.Viewing.{Viewing}
use Rattle.history.specs.Histories.{drawing_calls}
use Rattle.history.proofs.Runs.{Along, Beyond}
use Rattle.history.proofs.replay.replay.Given as goal

abbrev pub invariant-loop-drawn : goal.invariant-loop-drawn
invariant-loop-drawn g l =
    let b = g.C.Canvas.board l.fn.canvas in
    record {
      along : Along (g.S.Symmetry.meaning l.symmetry) b.frame b.seats l.palette l.fn.output (take l.drawn-index l.drawing) l.sheet.strokes (g.C.Canvas.board l.canvas) l.at l.output;
      calls : drawing_calls l.drawing ≡ drawing_calls l.fn.drawing;
    }

abbrev pub invariant-loop-viewed : goal.invariant-loop-viewed
invariant-loop-viewed g l =
    let b = g.C.Canvas.board l.fn.canvas in
    record {
      beyond : Beyond (g.S.Symmetry.meaning l.symmetry) b.frame b.seats l.palette l.fn.output l.drawing (take l.viewed-index l.viewing) l.closed.held l.closed.strokes (g.C.Canvas.board l.canvas) l.at l.output;
      calls : map (λ (e : Answered Viewing). e.call) l.viewing ≡ map (λ (e : Answered Viewing). e.call) l.initial.viewing;
    }
