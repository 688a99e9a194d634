use Rattle.std.proofs.Common.{sym, ap, ◌∙◌}
use Rattle.plane.specs.Cells.{inside}
use Rattle.plane.proofs.Corners.{corner_in, corner_out}
use Rattle.plane.proofs.window.judges.covers.Goals as goal

pub returns-else-is_within : goal.returns-else-is_within
returns-else-is_within c = c.if-is_within.false ∙ corner_out c.args.span c.args.corner c.args.width c.args.height c.requires.0 c.requires.1 (sym c.is_within.ensures ∙ c.if-is_within.false)

pub returns-then-is_within : goal.returns-then-is_within
returns-then-is_within c =
    c.is_within-then-is_within.ensures
    ∙ ap (inside c.args.span) c.cell_from.ensures
    ∙ corner_in c.args.span c.args.corner c.args.width c.args.height c.requires.0 c.requires.1 (sym c.is_within.ensures ∙ c.if-is_within.true)
