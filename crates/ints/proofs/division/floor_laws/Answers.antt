use Rattle.ints.proofs.Floor.{floor_splits, floor_unique, floor_cong}
use Rattle.ints.proofs.division.floor_laws.Goals as goal

pub returns : goal.returns
returns c = record { exists = floor_splits; unique = floor_unique; cong = floor_cong }
