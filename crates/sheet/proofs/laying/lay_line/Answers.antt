use Rattle.std.proofs.Common.{◌≡◌, length, sym, ap, ◌∙◌, subst, ap₂, refl, arith, rules, Err, Ok, Result}
use Rattle.plane.specs.Cells.{AllWithin}
use Rattle.lines.specs.Lines.{line_cells}
use Rattle.lines.proofs.Cells.{line_length}
use Rattle.std.proofs.lemmas.Result.{err_from_is_err_and}
use Rattle.sheet.specs.declared.refusal.LayRefused.{LayRefused}
use Rattle.sheet.specs.declared.refusal.StrokeRefused.TheVariants.{Stopped}
use Rattle.sheet.specs.Laying.{lay_all}
use Rattle.sheet.specs.Strokes.{by_laying, told, verdict}
use Rattle.sheet.proofs.Ahead.{ahead_none, ahead_more, ahead_stop, ahead_end}
use Rattle.sheet.proofs.laying.lay_line.Goals as goal

pub loop-at-init : goal.loop-at-init
loop-at-init g c =
    let line = c.args.line.now in
    let whole = lay_all (g.S.Symmetry.meaning c.args.symmetry.now) (g.C.Canvas.board c.args.canvas.now) c.args.mark (line_cells line.from line.to) in
    let all : c.into_iter-at-iterator.result ≡ line_cells line.from line.to = rw c.into_iter-at-iterator.ensures.into_iter_gives c.iter-at-items.ensures in
    record {
      ahead = rw all (ahead_none whole);
      within = rw all c.requires;
      few = rw all (omega (arith, line_length line.from line.to, line.short, line.whole));
    }

pub returns-in_err-map_err : goal.returns-in_err-map_err
returns-in_err-map_err g c =
    let m = g.S.Symmetry.meaning c.args.symmetry.now in
    let line = c.args.line.now in
    let whole = lay_all m (g.C.Canvas.board c.args.canvas.now) c.args.mark (line_cells line.from line.to) in
    let e = err_from_is_err_and c.from_residual.result c.from_residual.ensures.1 in
    let t = refused c.lay.result refl in
    let w = ahead_stop m c.args.mark whole c.loop-at.laid (g.C.Canvas.board c.loop-at.canvas) c.loop-at.at-iterator c.loop-at.invariant.ahead c.in-Some.at c.next.new.self c.in-Some.ensures.steps t.0 (sym t.1 ∙ c.lay.ensures.answer) in
    record { answer = e.1 ∙ ap Err (e.2 ∙ t.2) ∙ ap₂ (λ s n. told (verdict (by_laying s)) n) w.1 w.0; after = c.lay.ensures.after ∙ w.2 }
  where
    -- the refusal that was passed up is that of the cell
    refused : (r : Result (Unit {0}) LayRefused) → c.lay.result ≡ r → (why : LayRefused) × (c.lay.result ≡ Err why) × (c.in_err-map_err.field-0.0 ≡ record { refusal = Stopped why; laid = c.loop-at.laid })
    refused (Err why) k =
        let q = rw k at c.in_err-map_err.ensures.cases in
        let x : c.map_err.result ≡ Err c.in_err-map_err.field-0.0 = c.in_err-map_err.was in
        (why, k, search rules)
    refused (Ok u) k =
        let q = rw k at c.in_err-map_err.ensures.cases in
        let x : c.map_err.result ≡ Err c.in_err-map_err.field-0.0 = c.in_err-map_err.was in
        absurd (search rules)

pub loop-at-preserved : goal.loop-at-preserved
loop-at-preserved g c =
    let m = g.S.Symmetry.meaning c.args.symmetry.now in
    let whole = lay_all m (g.C.Canvas.board c.args.canvas.now) c.args.mark (line_cells c.args.line.now.from c.args.line.now.to) in
    let is = c.in-Some.ensures.steps in
    record {
      ahead = ahead_more m c.args.mark whole c.loop-at.laid (g.C.Canvas.board c.loop-at.canvas) c.loop-at.at-iterator c.loop-at.invariant.ahead c.in-Some.at c.next.new.self is tt (g.C.Canvas.board c.lay.new.canvas) (search rules) c.lay.ensures.after;
      within = (subst (AllWithin m.span) is c.loop-at.invariant.within).1;
      few = omega (arith, c.loop-at.invariant.few, ap length is);
    }

pub returns : goal.returns
returns g c =
    let m = g.S.Symmetry.meaning c.args.symmetry.now in
    let line = c.args.line.now in
    let whole = lay_all m (g.C.Canvas.board c.args.canvas.now) c.args.mark (line_cells line.from line.to) in
    let w = ahead_end m c.args.mark whole c.loop-at.laid (g.C.Canvas.board c.loop-at.canvas) c.loop-at.at-iterator c.loop-at.invariant.ahead c.in-None.ensures.steps.0 in
    record { answer = ap₂ (λ s n. told (verdict (by_laying s)) n) w.1 w.0; after = w.2 }
