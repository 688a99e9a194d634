use Rattle.std.proofs.Common.{Result, sym, ap, ◌∙◌}
use Rattle.plane.specs.declared.fold.Extent.{Extent}
use Rattle.plane.specs.Meaning.{Meaning}
use Rattle.layers.specs.declared.refused.LayerRefused.{LayerRefused}
use Rattle.layers.specs.Layer.{layer_extent, settled_extent}
use Rattle.layers.proofs.Passing.{extent_layered}
use Rattle.layers.proofs.layer.extent_of_layer.Goals as goal

pub returns : goal.returns
returns g c =
    let m : Meaning = g.S.Symmetry.meaning c.args.below.now in
    c.unwrap_or.ensures
    ∙ ap (λ (r : Result Extent LayerRefused). settled_extent r c.extent-extent.result) c.extent_over.ensures
    ∙ ap (λ (x : Extent). settled_extent (layer_extent c.args.layer x) x) c.extent-extent.ensures ∙ sym (extent_layered c.args.layer m)
