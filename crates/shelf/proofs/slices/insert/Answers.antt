use Rattle.std.proofs.Common.{◌-◌, ◌<◌, length, arith}
use Rattle.shelf.proofs.Outcomes.{written, added}
use Rattle.shelf.proofs.slices.insert.Goals as goal

pub returns-in-Ok : goal.returns-in-Ok
returns-in-Ok g c = written g.R.Record.keys c.args.records.now c.args.count (c.args.count - 0) c.requires.fits c.requires.sorted (omega arith) c.args.item c.key.result c.in-Ok.at c.key.ensures c.in-Ok.ensures.within c.in-Ok.ensures.is

pub returns-else-count-records : goal.returns-else-count-records
returns-else-count-records g c =
    let room : c.args.count < length c.args.records.now = omega (arith, c.requires.fits) in
    added g.R.Record.keys c.args.records.now c.args.count (c.args.count - 0) c.requires.fits c.requires.sorted (omega arith) c.args.item c.key.result c.in-Err.at c.copy_within.new.self c.key.ensures c.in-Err.ensures.within room c.copy_within.ensures.after c.in-Err.ensures.is
