use Rattle.plane.specs.Rectangles.{cells_from, window_cells}
use Rattle.census.specs.Census.{origin}
use Rattle.census.proofs.Owning.{Counting}
use Rattle.census.proofs.repeats.Census.of.Given as goal

abbrev pub invariant-loop-at : goal.invariant-loop-at
invariant-loop-at l =
    let g = l.group in
    let s = l.at-iterator in
    Counting g.group.number g.p g.q (window_cells origin g.p g.q) l.classes l.mirrored (cells_from s.window.corner s.window.width s.window.height s.column s.row)
