use Rattle.std.proofs.Common.{Err, ap, ◌∙◌}
use Rattle.std.proofs.lemmas.Result.{err_from_is_err_and}
use Rattle.pile.proofs.Leveling.{lower_on, lower_stops}
use Rattle.pile.proofs.levels.lower_through.Goals as goal

pub returns-in_err-cell : goal.returns-in_err-cell
returns-in_err-cell c =
    let h = err_from_is_err_and c.from_residual.result c.from_residual.ensures.1 in
    h.1 ∙ ap Err h.2 ∙ lower_stops _ _ _ _ _ c.in-Some.ensures.steps c.loop-level.invariant _ c.in_err-cell.ensures

pub loop-level-preserved : goal.loop-level-preserved
loop-level-preserved c = lower_on _ _ _ _ _ c.in-Some.ensures.steps c.loop-level.invariant _ c.in_ok-cell.ensures
