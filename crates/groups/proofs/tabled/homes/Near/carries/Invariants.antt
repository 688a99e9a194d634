-- What is left to test is the rows from the index on.
use Rattle.std.proofs.Common.{◌≡◌, map, drop}
use Rattle.groups.specs.Lists.{some}
use Rattle.groups.specs.Positions.{position_of}
use Rattle.groups.specs.Table.{rows}
use Rattle.groups.specs.Tabled.{carries}
use Rattle.groups.proofs.tabled.homes.Near.carries.Given as goal

abbrev pub invariant-loop-row : goal.invariant-loop-row
invariant-loop-row l =
    let test = carries l.self.tabled.p l.self.tabled.q l.self.at l.home l.improper in
    some test (map position_of (drop l.row-index l.row-items)) ≡ some test (rows l.self.tabled.group.number)
