use Rattle.std.proofs.Common.{◌≡◌, ◌+◌, ◌*◌, ◌≤◌, length}
use Rattle.plane.specs.Cells.{AllWithin}
use Rattle.plane.specs.Rectangles.{cells_from, window_cells}
use Rattle.views.specs.Windows.{pixels, placed, written_over}
use Rattle.views.proofs.window.pixels.put_pixels.Given as goal

-- the pixels of the cells that are left are still to be written
abbrev pub invariant-loop-cell : goal.invariant-loop-cell
invariant-loop-cell g l =
    let m = g.S.Symmetry.meaning l.symmetry in
    let pixels_of = pixels m (g.C.Canvas.board l.canvas) l.palette in
    let s = l.cell-iterator in
    let w = l.fn.window in
    let left = cells_from s.window.corner s.window.width s.window.height s.column s.row in
    record {
      finish : placed l.output l.at (pixels_of left) ≡ written_over (pixels_of (window_cells w.corner w.width w.height)) l.fn.output;
      within : AllWithin m.span left;
      room : l.at + 3 * length left ≤ length l.fn.output;
    }
