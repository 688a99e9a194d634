use Rattle.std.proofs.Common.{◌≤◌, sym, subst}
use Rattle.views.proofs.Shown.{shown_ok, shown-small}
use Rattle.views.proofs.window.pixels.pixel.Goals as goal

pub colour-requires : goal.colour-requires
colour-requires g c =
    let m = g.S.Symmetry.meaning c.args.symmetry.now in
    let b = g.C.Canvas.board c.args.canvas.now in
    let e = shown_ok m b c.args.at c.in-Ok.ink c.in-Ok.ensures in
    subst (λ n. n ≤ 15) (sym e) (shown-small m b c.args.at (g.C.Canvas.laws c.args.canvas.now))
