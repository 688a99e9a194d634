use Rattle.std.proofs.Common.{true, false, ap, ◌∙◌, Bool}
use Rattle.plane.specs.declared.cell.Cell.{Cell}
use Rattle.groups.specs.Lists.{some}
use Rattle.groups.specs.Table.{rows}
use Rattle.groups.specs.Tabled.{carries, kinds_in}
use Rattle.groups.proofs.tabled.homes.Near.kinds.Goals as goal

pub returns : goal.returns
unfolding kinds_in
returns c =
    let s = c.args.self.tabled in
    let own = λ (f : Bool). ap (λ (home : Cell). some (carries s.p s.q c.args.self.at home f) (rows s.group.number)) c.requires in
    λ i. record { even_proper = (c.carries.ensures ∙ own false) i; even_improper = (c.carries-2.ensures ∙ own true) i; odd_proper = false; odd_improper = false }
