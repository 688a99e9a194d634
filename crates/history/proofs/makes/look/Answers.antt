use Rattle.std.proofs.Common.{◌≡◌, take, ap, ◌∙◌}
use Rattle.views.specs.Windows.{window_output}
use Rattle.history.specs.declared.calls.Answer.TheVariants.{Windowed}
use Rattle.history.proofs.Painted.{take_some}
use Rattle.history.proofs.makes.look.Goals as goal

pub returns-in-Window : goal.returns-in-Window
returns-in-Window g c =
    let m = g.S.Symmetry.meaning c.args.symmetry.now in
    let b = g.C.Canvas.board c.args.canvas.now in
    let w = c.in-Window.window in
    let palette = c.args.palette.now in
    let bytes = c.args.part.now in
    let cut : take c.min.result palette ≡ take w.palette palette = take_some palette w.palette c.min.result c.min.ensures in
    let r = w.rectangle in
    record {
      answer = rw c.in-Window.is (ap Windowed (rw cut at c.window.ensures.answer));
      output = rw c.in-Window.is (c.window.ensures.output ∙ ap (λ inks. window_output m b r.corner r.width r.height inks bytes) cut);
    }
