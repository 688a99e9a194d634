-- What is left to lower is the levels that are left.
use Rattle.std.proofs.Common.{◌≡◌}
use Rattle.std.specs.Slice.Iter.{iter_rest}
use Rattle.std.specs.Iterator.Adapters.{rev_source}
use Rattle.pile.specs.Levels.{lowered_through}
use Rattle.pile.proofs.levels.lower_through.Given as goal

abbrev pub invariant-loop-level : goal.invariant-loop-level
invariant-loop-level l = lowered_through (iter_rest (rev_source l.level-iterator)) l.cell ≡ lowered_through l.levels l.initial.cell
