use Rattle.std.proofs.Common.{◌≡◌, max, refl, ◌∙◌, ap₂, arith, w64, SFits, rules}
use Rattle.std.proofs.lemmas.Int.{to_z-of_z}
use Rattle.lines.specs.Lines.{reach}
use Rattle.lines.proofs.Cells.{line_length, line_joins}
use Rattle.lines.proofs.line.Line.between.Goals as goal
use Rattle.lines.proofs.line.Line.between.Goals.{After-max-steps}

-- as many steps as the line has
reaches : (c : goal.After-max-steps) → c.max-steps.result ≡ reach c.args.from c.args.to
reaches c =
    let ux : SFits w64 c.args.from.x = search rules in
    let uy : SFits w64 c.args.from.y = search rules in
    let vx : SFits w64 c.args.to.x = search rules in
    let vy : SFits w64 c.args.to.y = search rules in
    c.max-steps.ensures ∙ ap₂ max (simp to_z-of_z at c.abs_diff-wide.ensures) (simp to_z-of_z at c.abs_diff-high.ensures)

pub returns-then-steps-gt4095 : goal.returns-then-steps-gt4095
returns-then-steps-gt4095 c =
    let e = reaches (goal.at.returns-then-steps-gt4095 c).After-max-steps in
    record { answer = (refl, omega (arith, line_length c.args.from c.args.to)); joins = line_joins c.args.from c.args.to }

pub returns : goal.returns
returns c =
    let e = reaches (goal.at.returns c).After-max-steps in
    record { answer = (refl, refl, omega (arith, line_length c.args.from c.args.to)); joins = line_joins c.args.from c.args.to }
