use Rattle.std.proofs.Common.{sym, ap, ◌∙◌}
use Rattle.layers.specs.Recast.{small}
use Rattle.layers.specs.Layer.{keeps}
use Rattle.layers.specs.Recasting.{inverse_test}
use Rattle.layers.proofs.layer.Layer.down.Goals as goal

pub applied-requires : goal.applied-requires
applied-requires c = (ap small c.inverse.ensures ∙ inverse_test c.in-Recast.matrix (sym (ap keeps c.in-Recast.is) ∙ c.requires.0), c.requires.1)
