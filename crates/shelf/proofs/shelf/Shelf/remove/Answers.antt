use Rattle.std.proofs.Common.{is_some, ap, arith}
use Rattle.std.proofs.lemmas.Grind.{common_steps}
use Rattle.shelf.specs.Held.{held}
use Rattle.shelf.proofs.Finds.{taken_unknown}
use Rattle.shelf.proofs.Moving.{left_in_order}
use Rattle.shelf.proofs.shelf.Shelf.remove.Goals as goal

pub invariant_of-self-2 : goal.invariant_of-self-2
invariant_of-self-2 g c = record { fits = omega (arith, c.remove.auto.records, c.args.self.now.fits); sorted = left_in_order g.R.Record.keys g.met.R.Record.total c.args.self.now.count c.args.self.now.records.now c.remove.new.records c.args.self.now.sorted c.args.key c.in_ok-item.item c.in_ok-item.ensures }

pub returns-in_err-item : goal.returns-in_err-item
returns-in_err-item g c =
    let e = taken_unknown g.R.Record.keys c.args.key (held c.args.self.now) (ap is_some c.in_err-item.ensures.unknown) in
    grind (arith, common_steps)
