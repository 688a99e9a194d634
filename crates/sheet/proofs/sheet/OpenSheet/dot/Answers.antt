use Rattle.std.proofs.Common.{◌≡◌, ap, ◌∙◌}
use Rattle.lines.proofs.Cells.{line_alone}
use Rattle.sheet.specs.Laying.{marked}
use Rattle.sheet.specs.Strokes.{Stroked, dotted, lined, stroke_answer, stroked}
use Rattle.sheet.proofs.sheet.OpenSheet.dot.Goals as goal

pub returns : goal.returns
returns g c =
    let m = g.S.Symmetry.meaning c.args.symmetry.now in
    let b = g.C.Canvas.board c.args.canvas.now in
    let strokes = c.args.self.now.strokes in
    let at = c.args.at in
    let mark = marked c.args.ink in
    let same : lined m strokes b at at mark ≡ dotted m strokes b at mark = ap (stroked m strokes b mark at at) (line_alone at) in
    record {
      answer = c.line.ensures.answer ∙ ap stroke_answer same;
      sheet = c.line.ensures.sheet ∙ ap (λ (s : Stroked). s.strokes) same;
      after = c.line.ensures.after ∙ ap (λ (s : Stroked). s.board) same;
    }
