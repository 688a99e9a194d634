use Rattle.std.proofs.Common.{List, vec_items, sym, ◌∙◌, ap₂}
use Rattle.plane.specs.declared.fold.Extent.{Extent}
use Rattle.pile.specs.declared.levels.Level.{Level}
use Rattle.pile.specs.Base.{based}
use Rattle.pile.specs.Levels.{top_extent}
use Rattle.pile.specs.Piling.{pile_extent}
use Rattle.pile.proofs.pile.folds.PileSymmetry.extent.Goals as goal

pub returns : goal.returns
returns c =
    let s = c.args.self.now in
    c.extent_of_top.ensures ∙ ap₂ (λ (ls : List Level) (e : Extent). top_extent ls e) c.as_slice.ensures.value c.extent-base.ensures ∙ sym (pile_extent (vec_items s.levels) (based s.base) s.level)
