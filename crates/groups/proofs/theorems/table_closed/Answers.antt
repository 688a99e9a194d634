use Rattle.groups.proofs.theorems.table_closed.Goals as goal
use Rattle.groups.specs.Closing.{table_closed}

pub returns : goal.returns
returns c = table_closed
