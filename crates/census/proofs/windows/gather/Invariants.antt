use Rattle.std.proofs.Common.{◌≡◌, [], vec_items}
use Rattle.plane.specs.Cells.{AllWithin}
use Rattle.plane.specs.Rectangles.{cells_from, window_cells}
use Rattle.census.specs.Windows.{met}
use Rattle.census.proofs.windows.gather.Given as goal

-- the cells that are left bring the homes to those of all, and are in the span
abbrev pub invariant-loop-at : goal.invariant-loop-at
invariant-loop-at g l =
    let m = g.S.Symmetry.meaning l.symmetry in
    let w = l.fn.window in
    let s = l.at-iterator in
    let left = cells_from s.window.corner s.window.width s.window.height s.column s.row in
    (met m.home (vec_items l.homes) left ≡ met m.home [] (window_cells w.corner w.width w.height)) × AllWithin m.span left
