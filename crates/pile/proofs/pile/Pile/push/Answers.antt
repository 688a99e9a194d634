use Rattle.std.proofs.Common.{is_ok, vec_items, ap, ◌∙◌}
use Rattle.layers.specs.Layer.{layer_extent}
use Rattle.pile.specs.declared.levels.Level.{Level}
use Rattle.pile.specs.Base.{based}
use Rattle.pile.specs.Piling.{levelled_tried, grown_alike}
use Rattle.pile.proofs.pile.Pile.push.Goals as goal

pub invariant_of-self : goal.invariant_of-self
invariant_of-self c =
    let s = c.args.self.now in
    let l : Level = record { layer = c.args.layer; below = c.extent-below.result } in
    record { level = levelled_tried (is_ok c.push.result) (vec_items s.levels) (vec_items c.push.new.self) l (based s.base) c.push.ensures.items s.level c.extent-below.ensures }

pub returns-clause-alike : goal.returns-clause-alike
returns-clause-alike c =
    let s = c.args.self.now in
    let ls = vec_items s.levels in
    let l : Level = record { layer = c.args.layer; below = c.extent-below.result } in
    let told = c.in_ok-extent_over.ensures ∙ ap (layer_extent c.args.layer) c.extent-below.ensures in
    grown_alike ls (vec_items c.push.new.self) l (based s.base) c.in_ok-extent_over.field-0 c.in_ok-push.ensures.items told
