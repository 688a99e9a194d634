use Rattle.std.proofs.Common.{◌+◌, ◌≤◌, length}
use Rattle.plane.specs.Cells.{AllWithin}
use Rattle.lines.specs.Lines.{line_cells}
use Rattle.sheet.specs.Laying.{lay_all}
use Rattle.sheet.proofs.Ahead.{Ahead}
use Rattle.sheet.proofs.laying.lay_line.Given as goal

-- what comes of the cells that are left comes to the whole
abbrev pub invariant-loop-at : goal.invariant-loop-at
invariant-loop-at g l =
    let m = g.S.Symmetry.meaning l.symmetry in
    record {
      ahead : Ahead (lay_all m (g.C.Canvas.board l.initial.canvas) l.mark (line_cells l.line.from l.line.to)) l.laid (lay_all m (g.C.Canvas.board l.canvas) l.mark l.at-iterator);
      within : AllWithin m.span l.at-iterator;
      few : l.laid + length l.at-iterator ≤ 4096;
    }
