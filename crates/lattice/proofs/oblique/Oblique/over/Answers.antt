use Rattle.lattice.specs.Boxing.{homes_in_box}
use Rattle.lattice.proofs.oblique.Oblique.over.Goals as goal

pub returns-clause-homes : goal.returns-clause-homes
returns-clause-homes c = λ p. homes_in_box c.args.vectors c.in_ok-reduced.reduced c.in_ok-reduced.ensures.reduces p
