use Rattle.std.proofs.Common.{rules}
use Rattle.plane.proofs.Walking.{next_left, none_left, shorter, turn_left}
use Rattle.plane.proofs.window.cells.CellsIterator.next.Goals as goal

pub returns-then-self-window-clause-steps : goal.returns-then-self-window-clause-steps
returns-then-self-window-clause-steps c =
    let s = c.args.self.now in
    let e = none_left s.window.corner s.window.width s.window.height s.column s.row s.narrow c.if-self-window.true in (e, e)

pub returns-then-self-window-2-clause-steps : goal.returns-then-self-window-2-clause-steps
returns-then-self-window-2-clause-steps c = let s = c.args.self.now in turn_left s.window.corner s.window.width s.window.height s.column s.row s.narrow c.cell_from-at.result c.cell_from-at.ensures c.if-self-window.false c.if-self-window-2.true

pub returns-then-self-window-2-clause-goes : goal.returns-then-self-window-2-clause-goes
returns-then-self-window-2-clause-goes c = let l = shorter (returns-then-self-window-2-clause-steps c) in search (rules, l)

pub returns-else-self-window-2-clause-steps : goal.returns-else-self-window-2-clause-steps
returns-else-self-window-2-clause-steps c = let s = c.args.self.now in next_left s.window.corner s.window.width s.window.height s.column s.row s.narrow c.cell_from-at.result c.cell_from-at.ensures c.if-self-window.false

pub returns-else-self-window-2-clause-goes : goal.returns-else-self-window-2-clause-goes
returns-else-self-window-2-clause-goes c = let l = shorter (returns-else-self-window-2-clause-steps c) in search (rules, l)
