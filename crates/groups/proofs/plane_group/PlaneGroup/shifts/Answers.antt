use Rattle.std.proofs.Common.{ap, ◌∙◌, rules, tests}
use Rattle.std.proofs.lemmas.Iterator.{YieldsList-from_slice}
use Rattle.std.proofs.lemmas.Iterator.Search.{any_from_yields_List}
use Rattle.groups.specs.Lists.{some}
use Rattle.groups.specs.Positions.{position_of}
use Rattle.groups.specs.Rules.{shifts_x, shifts_y}
use Rattle.groups.proofs.Walking.{some-map}
use Rattle.groups.proofs.plane_group.PlaneGroup.shifts.Goals as goal

pub returns : goal.returns
returns c =
    let rs = c.rows-rows.result.now in
    let x = any_from_yields_List (λ r. shifts_x (position_of r)) _ _ c.any.result c.any.ensures.ran (YieldsList-from_slice rs cc) (λ x b q k. search (rules, tests)) in
    let y = any_from_yields_List (λ r. shifts_y (position_of r)) _ _ c.any-2.result c.any-2.ensures.ran (YieldsList-from_slice rs cc) (λ x b q k. search (rules, tests)) in
    record { x = x ∙ some-map shifts_x rs ∙ ap (some shifts_x) c.rows-rows.ensures; y = y ∙ some-map shifts_y rs ∙ ap (some shifts_y) c.rows-rows.ensures }
