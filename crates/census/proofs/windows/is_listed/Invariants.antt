use Rattle.std.proofs.Common.{◌≡◌, drop}
use Rattle.plane.specs.Cells.{same}
use Rattle.groups.specs.Lists.{some}
use Rattle.census.proofs.windows.is_listed.Given as goal

abbrev pub invariant-loop-other : goal.invariant-loop-other
invariant-loop-other l = some (same l.home) (drop l.other-index l.homes) ≡ some (same l.home) l.homes
