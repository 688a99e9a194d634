use Rattle.std.proofs.Common.{◌≤◌, ◌∙◌, sym, length, arith, rules, tests}
use Rattle.std.proofs.lemmas.Grind.{common_steps}
use Rattle.std.proofs.lemmas.Iterator.{YieldsList-from_slice}
use Rattle.std.proofs.lemmas.Iterator.Search.{all_from_yields_List}
use Rattle.dyes.specs.Names.{letter}
use Rattle.dyes.proofs.Spelling.{is_well_formed}
use Rattle.dyes.proofs.name.spells.is_well_formed.Goals as goal

pub returns-then-bytes-le8 : goal.returns-then-bytes-le8
returns-then-bytes-le8 c =
    let all = all_from_yields_List letter _ _ c.all.result c.all.ensures.ran (YieldsList-from_slice c.args.bytes.now cc) (λ x b q k. search (rules, tests)) in
    let low : 1 ≤ length c.args.bytes.now = grind (arith, common_steps) in
    let high : length c.args.bytes.now ≤ 8 = grind (arith, common_steps) in
    all ∙ sym (is_well_formed c.args.bytes.now low high)
