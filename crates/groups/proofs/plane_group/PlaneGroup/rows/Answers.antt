use Rattle.std.proofs.Common.{◌-◌, List, ℤ, map, take, drop, ap, ◌∙◌}
use Rattle.groups.specs.Table.{numbers, starts, first_row, end_row}
use Rattle.groups.specs.Positions.{position_of}
use Rattle.groups.proofs.Placing.{rows_of}
use Rattle.groups.proofs.plane_group.PlaneGroup.rows.Goals as goal

pub returns : goal.returns
unfolding numbers starts first_row end_row
returns c =
    let n = c.args.self.number in
    ap (λ (table : List (List ℤ)). map position_of (take (end_row n - first_row n) (drop (first_row n) table))) c.as_chunks.ensures.front ∙ rows_of n c.args.self.listed
