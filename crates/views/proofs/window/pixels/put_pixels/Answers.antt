use Rattle.std.proofs.Common.{◌≡◌, ◌+◌, ◌*◌, ◌≤◌, length, ap, sym, ◌∙◌, subst, arith}
use Rattle.plane.specs.Cells.{AllWithin}
use Rattle.plane.specs.Rectangles.{cells_from, window_cells}
use Rattle.plane.proofs.Rectangles.{window_length}
use Rattle.views.specs.Windows.{pixels, placed, written_over}
use Rattle.views.proofs.Pixels.{pixels_left}
use Rattle.views.proofs.Placing.{placed_first, placed_none}
use Rattle.views.proofs.window.pixels.put_pixels.Goals as goal

pub loop-cell-init : goal.loop-cell-init
loop-cell-init g c =
    let m = g.S.Symmetry.meaning c.args.symmetry.now in
    let pixels_of = pixels m (g.C.Canvas.board c.args.canvas.now) c.args.palette.now in
    let w = c.args.window in
    let s = c.into_iter-cell-iterator.result in
    let xs = c.args.output.now in
    let cells = window_cells w.corner w.width w.height in
    let gives = c.into_iter-cell-iterator.ensures.into_iter_gives in
    let all : cells_from s.window.corner s.window.width s.window.height s.column s.row ≡ cells = rw gives c.cells-cell-items.ensures in
    record {
      finish = ap (λ ps. placed xs 0 (pixels_of ps)) all ∙ placed_first xs (pixels_of cells);
      within = subst (AllWithin m.span) (sym all) c.requires.within;
      room = let n = ap length all ∙ window_length w.corner w.width w.height in omega (arith, c.requires.room);
    }

pub loop-cell-preserved : goal.loop-cell-preserved
loop-cell-preserved g c =
    let m = g.S.Symmetry.meaning c.args.symmetry.now in
    let b = g.C.Canvas.board c.args.canvas.now in
    let palette = c.args.palette.now in
    let w = c.args.window in
    let all = written_over (pixels m b palette (window_cells w.corner w.width w.height)) c.args.output.now in
    let is = c.in-Some.ensures.steps in
    let i = c.loop-cell.invariant in
    let s = c.loop-cell.cell-iterator in
    let left = cells_from s.window.corner s.window.width s.window.height s.column s.row in
    let n = c.next.new.self in
    let rest = cells_from n.window.corner n.window.width n.window.height n.column n.row in
    let fits : c.loop-cell.at + 3 * length left ≤ length c.loop-cell.output = omega (arith, i.room) in
    record {
      finish = pixels_left m b palette c.loop-cell.output c.copy_from_slice.new.self all c.loop-cell.at c.in-Some.cell left rest is i.finish fits cc;
      within = (subst (AllWithin m.span) is i.within).1;
      room = omega (arith, i.room, ap length is);
    }

pub returns : goal.returns
returns g c =
    let pixels_of = pixels (g.S.Symmetry.meaning c.args.symmetry.now) (g.C.Canvas.board c.args.canvas.now) c.args.palette.now in
    sym (ap (λ ps. placed c.loop-cell.output c.loop-cell.at (pixels_of ps)) c.in-None.ensures.steps.0 ∙ placed_none c.loop-cell.output c.loop-cell.at) ∙ c.loop-cell.invariant.finish
