use Rattle.std.proofs.Common.{◌+◌, ◌<◌, length, refl, sym, ap, arith}
use Rattle.shelf.specs.Held.{held, size}
use Rattle.dyes.specs.Shelves.{records_book}
use Rattle.dyes.proofs.Adding.{Adds, adds}
use Rattle.dyes.proofs.book.DyeBook.add_name.Goals as goal
use Rattle.dyes.proofs.book.DyeBook.add_name.Goals.{After-insert}

-- what the shelf's insertion adds to the book
added : (c : goal.After-insert) → let shelf = c.args.self.now.shelf in Adds (records_book (held shelf) (size shelf)) c.args.name (held c.insert.new.self) (size c.insert.new.self)
added c =
    let shelf = c.args.self.now.shelf in
    let l : length (held shelf) < 15 = omega (arith, c.count-count.ensures, c.if-count-ge15.false) in
    adds (held shelf) (size shelf) shelf.sorted c.args.self.now.numbered c.args.self.now.each c.args.name (record { name = c.args.name; ink = c.count-count.result + 1 }) refl (ap (λ k. k + 1) c.count-count.ensures) (sym c.in_default.ensures) l (held c.insert.new.self) (size c.insert.new.self) c.insert.ensures.holds c.insert.ensures.keeps.size

pub invariant_of-self : goal.invariant_of-self
invariant_of-self c =
    let w = added (goal.at.invariant_of-self c).After-insert in
    record { numbered = w.numbered; each = w.each; few = w.few }

pub returns-clause-after : goal.returns-clause-after
returns-clause-after c = (added (goal.at.returns-clause-after c).After-insert).book
