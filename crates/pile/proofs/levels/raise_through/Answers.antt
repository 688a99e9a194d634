use Rattle.std.proofs.Common.{List, sym, ap, ◌∙◌, arith}
use Rattle.std.proofs.lemmas.List.{drop_all}
use Rattle.pile.specs.declared.levels.Level.{Level}
use Rattle.pile.specs.Levels.{raised_through}
use Rattle.pile.proofs.Leveling.{raise_on}
use Rattle.pile.proofs.levels.raise_through.Goals as goal

pub loop-level-preserved : goal.loop-level-preserved
loop-level-preserved c = raise_on c.args.levels.now c.loop-level.level-index _ c.loop-level.fold c.raise-fold.result (raised_through c.args.levels.now c.args.found) c.loop-level-test.true c.raise-fold.ensures c.loop-level.invariant

pub returns : goal.returns
returns c = sym (ap (λ (ks : List Level). raised_through ks c.loop-level.fold) (drop_all c.loop-level.level-index c.args.levels.now (omega arith))) ∙ c.loop-level.invariant
