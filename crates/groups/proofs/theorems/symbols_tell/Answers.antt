use Rattle.groups.proofs.Naming.{symbols_tell}
use Rattle.groups.proofs.theorems.symbols_tell.Goals as goal

pub returns : goal.returns
returns c = symbols_tell
