-- The refusals of lattices: their numbers, and when each comes.
use Rattle.std.specs.Prelude.{ℕ, Bool, true, false, Some, None, Ok, Err, Option, Result}
use Rattle.lattice.specs.declared.refused.LatticeRefused.{LatticeRefused}
use Rattle.lattice.specs.declared.refused.LatticeRefused.TheVariants.{TooLong, Parallel}

abbrev pub lattice_number : LatticeRefused → ℕ
lattice_number Parallel = 13
lattice_number TooLong = 14

-- the refusal of two vectors, from whether their entries are small and whether they are parallel: the entries first
abbrev pub verdict : Bool → Bool → Option LatticeRefused
verdict false flat = Some TooLong
verdict true true = Some Parallel
verdict true false = None

-- what a call answers: the refusal, or else the value
abbrev pub unless : {A : Type 0} → Option LatticeRefused → A → Result A LatticeRefused
unless (Some why) value = Err why
unless None value = Ok value
