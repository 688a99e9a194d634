use Rattle.std.proofs.Common.{◌≡◌, ◌∙◌, rules, tests}
use Rattle.std.specs.Option.{option_copied}
use Rattle.pile.proofs.Leveling.{extent_at, top_last}
use Rattle.pile.proofs.levels.extent_of_top.Goals as goal

pub returns : goal.returns
returns c = let e : c.map_or.result ≡ extent_at (option_copied c.last.result) c.args.base = search (rules, tests) in e ∙ top_last c.args.levels.now c.args.base _ c.last.ensures.value
