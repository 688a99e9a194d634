use Rattle.std.proofs.Common.{◌≡◌, ◌≤◌, Some, Ok, Option, ◌∙◌, sym, ap, arith}
use Rattle.std.proofs.lemmas.Grind.{common_steps}
use Rattle.shelf.specs.Held.{held, size}
use Rattle.sparse.specs.declared.record.CellRecord.{CellRecord}
use Rattle.sparse.specs.Records.{record_if, cells_board}
use Rattle.sparse.proofs.Shelving.{Puts, bare, inked, told}
use Rattle.sparse.proofs.sparse.holds.SparseCanvasCanvas.put.Goals as goal
use Rattle.sparse.proofs.sparse.holds.SparseCanvasCanvas.put.Goals.{After-remove, After-insert}

-- the put comes to what the shelf's call did
removed : (c : goal.After-remove) → let shelf = c.args.self.now.shelf in Puts (cells_board (held shelf) (size shelf)) c.args.at c.args.ink (Ok tt) (held c.remove.new.self) (size c.remove.new.self)
removed c =
    let low : c.args.ink ≤ 15 = omega arith in
    let made : ◌≡◌ {A = Option CellRecord} (record_if c.args.at c.args.ink) (Some c.in_ok-new.new) = grind (arith, common_steps) in
    let shelf = c.args.self.now.shelf in
    bare (held shelf) (size shelf) shelf.sorted c.args.self.now.sound c.args.at c.args.ink low c.in_ok-new.new made c.if-ink-eq0.true (held c.remove.new.self) (size c.remove.new.self) c.remove.ensures.holds c.remove.ensures.keeps.size

inserted : (c : goal.After-insert) → let shelf = c.args.self.now.shelf in Puts (cells_board (held shelf) (size shelf)) c.args.at c.args.ink (told c.insert.result) (held c.insert.new.self) (size c.insert.new.self)
inserted c =
    let low : c.args.ink ≤ 15 = omega arith in
    let made : ◌≡◌ {A = Option CellRecord} (record_if c.args.at c.args.ink) (Some c.in_ok-new.new) = grind (arith, common_steps) in
    let shelf = c.args.self.now.shelf in
    inked (held shelf) (size shelf) shelf.sorted c.args.self.now.sound c.args.at c.args.ink low c.in_ok-new.new made c.if-ink-eq0.false c.insert.result (held c.insert.new.self) (size c.insert.new.self) c.insert.ensures.answers c.insert.ensures.holds c.insert.ensures.keeps.size

pub invariant_of-self : goal.invariant_of-self
invariant_of-self c = record { sound = (removed (goal.at.invariant_of-self c).After-remove).sound; few = omega (arith, c.remove.ensures.keeps.size, c.args.self.now.few) }

pub returns-then-ink-eq0-clause-after : goal.returns-then-ink-eq0-clause-after
returns-then-ink-eq0-clause-after c = (removed (goal.at.returns-then-ink-eq0-clause-after c).After-remove).board

pub invariant_of-self-else-ink-eq0 : goal.invariant_of-self-else-ink-eq0
invariant_of-self-else-ink-eq0 c = record { sound = (inserted (goal.at.invariant_of-self-else-ink-eq0 c).After-insert).sound; few = omega (arith, c.insert.ensures.keeps.size, c.args.self.now.few) }

pub returns-in_err-insert-clause-after : goal.returns-in_err-insert-clause-after
returns-in_err-insert-clause-after c = (inserted (goal.at.returns-in_err-insert-clause-after c).After-insert).board

pub returns-in_ok-insert : goal.returns-in_ok-insert
returns-in_ok-insert c = let w = inserted (goal.at.returns-in_ok-insert c).After-insert in record { answer = ap told (sym c.in_ok-insert.was) ∙ w.answers; after = w.board }
