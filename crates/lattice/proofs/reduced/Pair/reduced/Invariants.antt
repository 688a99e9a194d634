-- Each step keeps the reduction, and the second row falls.
use Rattle.std.proofs.Common.{◌≡◌}
use Rattle.lattice.specs.declared.reduced.Pair.{Pair}
use Rattle.lattice.specs.declared.reduced.Reduced.{Reduced}
use Rattle.lattice.specs.Reduction.{euclid}
use Rattle.lattice.proofs.reduced.Pair.reduced.Given as goal

abbrev pub steps : Pair → Reduced
steps p = euclid p.second.y p.first.x p.first.y p.second.x p.second.y

abbrev pub invariant-loop-pair : goal.invariant-loop-pair
invariant-loop-pair l = steps l.pair ≡ steps l.initial.pair

abbrev pub decreases-loop-pair : goal.decreases-loop-pair
decreases-loop-pair l = l.pair.second.y
