use Rattle.std.proofs.Common.{◌-◌, arith}
use Rattle.shelf.proofs.Outcomes.{gone}
use Rattle.shelf.proofs.slices.remove.Goals as goal

pub returns : goal.returns
returns g c = gone g.R.Record.keys c.args.records.now c.args.count (c.args.count - 0) c.requires.fits c.requires.sorted (omega arith) c.args.key c.in-Ok.at c.index-records-at.result c.copy_within.new.self c.in-Ok.ensures.within c.index-records-at.is c.copy_within.ensures.after c.in-Ok.ensures.is
