use Rattle.std.proofs.Common.{sym, ap, ◌∙◌, ap₂}
use Rattle.lines.specs.Lines.{line_cells}
use Rattle.sheet.specs.Laying.{lay_all}
use Rattle.sheet.specs.Strokes.{attempt, laying_answer, stroke_answer}
use Rattle.sheet.proofs.strokes.draw.Goals as goal

pub returns : goal.returns
returns g c =
    let m = g.S.Symmetry.meaning c.args.symmetry.now in
    let b = g.C.Canvas.board c.args.canvas.now in
    let t = c.in_ok-line.ensures in
    let l = lay_all m b c.args.mark (line_cells c.args.from c.args.to) in
    let same = ap (lay_all m b c.args.mark) (ap₂ line_cells t.1 t.2) in
    record {
      answer = c.lay_line.ensures.answer ∙ ap laying_answer same ∙ ap (λ o. stroke_answer (attempt o c.args.strokes b l)) (sym t.0);
      after = c.lay_line.ensures.after ∙ ap (λ k. k.board) same ∙ ap (λ o. (attempt o c.args.strokes b l).board) (sym t.0);
    }
