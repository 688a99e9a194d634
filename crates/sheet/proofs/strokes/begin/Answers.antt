use Rattle.lines.specs.Lines.{line_cells}
use Rattle.sheet.specs.Strokes.{entry_refusal}
use Rattle.sheet.proofs.Strikes.{entered, refused_not, verdict_none}
use Rattle.sheet.proofs.strokes.begin.Goals as goal

pub returns : goal.returns
returns g c =
    let m = g.S.Symmetry.meaning c.args.symmetry.now in
    let from = c.args.from in
    let to = c.args.to in
    let t = c.in_ok-between.ensures in
    let admitted = verdict_none (entry_refusal m c.args.strokes c.args.mark from to) c.in_ok-admit.field-0 c.in_ok-admit.ensures in
    let in_span = entered m c.args.strokes c.args.mark from to admitted in
    (refused_not m c.args.strokes c.args.mark from to (line_cells from to) admitted t.answer.2, t.answer.0, t.answer.1, t.joins.between m.span in_span.start in_span.end)
