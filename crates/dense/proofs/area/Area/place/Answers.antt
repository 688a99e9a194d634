use Rattle.std.proofs.Common.{◌+◌, ◌*◌, ◌∙◌, w32, w64, SFits, rules}
use Rattle.std.proofs.lemmas.Int.{to_z-of_z}
use Rattle.dense.proofs.Places.{few, no_row, row_and_column}
use Rattle.dense.proofs.area.Area.place.Goals as goal

pub returns-in_err-row : goal.returns-in_err-row
returns-in_err-row c =
    let fy : SFits w32 c.args.self.y = search rules in
    let fp : SFits w64 c.args.at.y = search rules in
    let n = no_row c.args.self c.args.at (simp to_z-of_z at c.in_err-row.ensures) in
    record { is = c.from_residual-in_err-row.ensures ∙ n; within = search rules; few = few c.args.self.width c.args.self.height (search rules) (search rules) }

pub returns : goal.returns
returns c =
    let fx : SFits w32 c.args.self.x = search rules in
    let fq : SFits w64 c.args.at.x = search rules in
    let fy : SFits w32 c.args.self.y = search rules in
    let fp : SFits w64 c.args.at.y = search rules in
    let w = row_and_column c.args.self c.args.at c.in_ok-column.column c.in_ok-row.row (c.from.result * c.from-2.result + c.from-3.result) (simp to_z-of_z at c.in_ok-column.ensures) (simp to_z-of_z at c.in_ok-row.ensures) (cc) in
    record { is = w.is; within = w.within; few = few c.args.self.width c.args.self.height (search rules) (search rules) }
