use Rattle.std.proofs.Common.{Err, ap, ◌∙◌}
use Rattle.std.proofs.lemmas.Result.{err_from_is_err_and}
use Rattle.layers.proofs.Passing.{lower_refused, fold_refused, found_below}
use Rattle.layers.proofs.layer.fold_of_layer.Goals as goal

pub returns-in_err-lowered : goal.returns-in_err-lowered
returns-in_err-lowered g c =
    let b = c.args.below.now in
    let h = err_from_is_err_and c.from_residual.result c.from_residual.ensures.1 in
    h.1 ∙ ap Err h.2 ∙ lower_refused c.args.layer (g.S.Symmetry.meaning b) (g.met.S.Symmetry.lawful b) c.args.at c.extent-extent.result c.extent-extent.ensures c.in_err-lowered.field-0.0 c.in_err-lowered.ensures

pub returns-in_err-found : goal.returns-in_err-found
returns-in_err-found g c =
    let b = c.args.below.now in
    let h = err_from_is_err_and c.from_residual-in_err-found.result c.from_residual-in_err-found.ensures.1 in
    h.1 ∙ ap Err h.2 ∙ fold_refused c.args.layer (g.S.Symmetry.meaning b) (g.met.S.Symmetry.lawful b) c.args.at c.extent-extent.result c.extent-extent.ensures c.in_ok-lowered.lowered c.in_err-found.field-0.0 c.in_ok-lowered.ensures c.in_err-found.ensures

pub returns : goal.returns
returns g c =
    let b = c.args.below.now in
    found_below c.args.layer (g.S.Symmetry.meaning b) (g.met.S.Symmetry.lawful b) c.args.at c.extent-extent.result c.extent-extent.ensures c.in_ok-lowered.lowered c.in_ok-found.found c.raise.result c.in_ok-lowered.ensures c.in_ok-found.ensures c.raise.ensures
