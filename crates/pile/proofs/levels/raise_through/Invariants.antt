-- What is left to raise is the levels from the index on.
use Rattle.std.proofs.Common.{◌≡◌, drop}
use Rattle.pile.specs.Levels.{raised_through}
use Rattle.pile.proofs.levels.raise_through.Given as goal

abbrev pub invariant-loop-level : goal.invariant-loop-level
invariant-loop-level l = raised_through (drop l.level-index l.levels) l.fold ≡ raised_through l.levels l.initial.fold
