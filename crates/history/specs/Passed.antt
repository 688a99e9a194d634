-- What a slice that may or may not be passed holds, at the call and at the return.
use Rattle.std.specs.Prelude.{◌⊎◌, List, Some, None, Option}
use Rattle.std.proofs.Common.{inl, inr}
use Rattle.std.specs.Borrow.{MutBor}

abbrev pub passed : {X : Type 0} → Option (MutBor (List X)) → Option (List X)
passed None = None
passed (Some r) = Some r.now

abbrev pub returned : {X : Type 0} → Unit {0} ⊎ ((MutBor (List X) × Unit {0}) ⊎ ⊥) → Option (List X)
returned (inl none) = None
returned (inr (inl r)) = Some r.0.now
returned (inr (inr never)) = absurd never
