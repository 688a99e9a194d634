use Rattle.std.proofs.Common.{ap₂}
use Rattle.groups.specs.Tabled.{least, home_in}
use Rattle.groups.proofs.tabled.homes.Near.home.Goals as goal

pub loop-row-init : goal.loop-row-init
unfolding home_in
loop-row-init c = ap₂ (least c.args.self.tabled.p c.args.self.tabled.q c.args.self.at) c.reduced-best.ensures c.rows-row-items.ensures
