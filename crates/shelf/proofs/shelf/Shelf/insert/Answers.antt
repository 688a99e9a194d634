use Rattle.shelf.proofs.Moving.{stays_in_order}
use Rattle.shelf.proofs.shelf.Shelf.insert.Goals as goal

pub invariant_of-self-2 : goal.invariant_of-self-2
invariant_of-self-2 g c = record { fits = c.in_ok-self.ensures.few; sorted = stays_in_order g.R.Record.keys g.met.R.Record.total c.args.self.now.count c.args.self.now.records.now c.insert.new.records c.args.self.now.sorted c.args.item c.in_ok-self.field-0 c.in_ok-self.ensures }
