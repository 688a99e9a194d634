use Rattle.std.proofs.Common.{◌≡◌, ◌<◌, ap, ◌∙◌, subst}
use Rattle.lines.specs.Lines.{line_cells}
use Rattle.sheet.specs.Laying.{marked}
use Rattle.sheet.specs.Strokes.{laid_of, lined, strokes_after}
use Rattle.sheet.proofs.Strikes.{laid_told, room_for, strokes_counted}
use Rattle.sheet.proofs.sheet.OpenSheet.line.Given as given
use Rattle.sheet.proofs.sheet.OpenSheet.line.Goals as goal
use Rattle.sheet.proofs.sheet.OpenSheet.line.Goals.{After-laid}

-- as many cells as the stroke lays
counted : (g : given.Over) (c : goal.After-laid g) → c.laid.result ≡ (lined (g.S.Symmetry.meaning c.args.symmetry.now) c.args.self.now.strokes (g.C.Canvas.board c.args.canvas.now) c.args.from c.args.to (marked c.args.ink)).laid
counted g c =
    let s = lined (g.S.Symmetry.meaning c.args.symmetry.now) c.args.self.now.strokes (g.C.Canvas.board c.args.canvas.now) c.args.from c.args.to (marked c.args.ink) in
    c.laid.ensures ∙ ap laid_of c.draw-drawn.ensures.answer ∙ laid_told s.refusal s.laid

pub strokes_after-self-requires : goal.strokes_after-self-requires
strokes_after-self-requires g c = λ some.
    let n = subst (λ n. 0 < n) (counted g (goal.at.strokes_after-self-requires g c).After-laid) some in
    room_for (g.S.Symmetry.meaning c.args.symmetry.now) c.args.self.now.strokes (marked c.args.ink) c.args.from c.args.to (line_cells c.args.from c.args.to) (g.C.Canvas.board c.args.canvas.now) n

pub returns-clause-sheet : goal.returns-clause-sheet
returns-clause-sheet g c =
    let count = counted g (goal.at.returns-clause-sheet g c).After-laid in
    c.strokes_after-self.ensures ∙ ap (strokes_after c.args.self.now.strokes) count ∙ strokes_counted (g.S.Symmetry.meaning c.args.symmetry.now) c.args.self.now.strokes (g.C.Canvas.board c.args.canvas.now) (marked c.args.ink) c.args.from c.args.to (line_cells c.args.from c.args.to)
