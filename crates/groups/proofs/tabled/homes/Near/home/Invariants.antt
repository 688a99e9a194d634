-- The least of the image found so far and those under the rows from the index on.
use Rattle.std.proofs.Common.{◌≡◌, map, drop}
use Rattle.groups.specs.Positions.{position_of}
use Rattle.groups.specs.Tabled.{least, home_in}
use Rattle.groups.proofs.tabled.homes.Near.home.Given as goal

abbrev pub invariant-loop-row : goal.invariant-loop-row
invariant-loop-row l = least l.self.tabled.p l.self.tabled.q l.self.at l.best (map position_of (drop l.row-index l.row-items)) ≡ home_in l.self.tabled.group.number l.self.tabled.p l.self.tabled.q l.self.at
