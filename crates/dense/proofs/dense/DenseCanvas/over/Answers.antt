use Rattle.std.proofs.Common.{◌≡◌, ◌≤◌, length, ap, ◌∙◌, w32, to_z, of_z, rules}
use Rattle.dense.specs.declared.area.Area.{Area}
use Rattle.dense.specs.Area.{size}
use Rattle.dense.specs.Making.{area_of, empty_board, zeroed}
use Rattle.dense.proofs.Making.{rows_fit}
use Rattle.dense.proofs.Wipes.{Empty, wiped}
use Rattle.dense.proofs.dense.DenseCanvas.over.Goals as goal
use Rattle.dense.proofs.dense.DenseCanvas.over.Goals.{After-wipe}

abbrev area : goal.After-wipe → Area
area c = record { x = to_z w32 (of_z w32 c.args.corner_x); y = to_z w32 (of_z w32 c.args.corner_y); width = c.side-wide.result; height = c.rows.result }

-- no cell is held
empty : (c : goal.After-wipe) → Empty (area c) c.args.bytes.now 0 c.wipe.new.bytes
empty c =
    let fits : size (area c) ≤ length c.args.bytes.now = rows_fit (length c.args.bytes.now) c.side-wide.result c.rows.result c.rows.ensures in
    wiped (area c) c.args.bytes.now 0 c.wipe.new.bytes fits (c.wipe.ensures ∙ ap (λ n. zeroed n c.args.bytes.now) c.size.ensures)

pub invariant_of-result : goal.invariant_of-result
invariant_of-result c =
    let w = empty (goal.at.invariant_of-result c).After-wipe in
    record { long = w.long; small = w.small; counted = w.counted }

pub returns-clause-board : goal.returns-clause-board
returns-clause-board c =
    let here = (goal.at.returns-clause-board c).After-wipe in
    let same : area here ≡ area_of c.args.corner_x c.args.corner_y c.args.width (length c.args.bytes.now) = search rules in
    (empty here).board ∙ ap empty_board same
