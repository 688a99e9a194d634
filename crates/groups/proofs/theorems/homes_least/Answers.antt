use Rattle.groups.proofs.theorems.homes_least.Goals as goal
use Rattle.groups.specs.Homing.{homes_least}

pub returns : goal.returns
returns c = homes_least
