-- Vectors that are not refused.
use Rattle.std.proofs.Common.{◌≡◌, Bool, true, false, Some, None, Ok, Option, refl}
use Rattle.lattice.specs.declared.refused.LatticeRefused.{LatticeRefused}
use Rattle.lattice.specs.declared.vectors.Vectors.{Vectors}
use Rattle.lattice.specs.Refusals.{verdict, unless}
use Rattle.lattice.specs.Lattice.{small, parallel, refusal}

pub accepted : (v : Vectors) → Ok (tt {0}) ≡ unless (refusal v) (tt {0}) → (small v ≡ true) × (parallel v ≡ false)
accepted v = go (small v) (parallel v)
  where
    go : (s f : Bool) → Ok (tt {0}) ≡ unless (verdict s f) (tt {0}) → (s ≡ true) × (f ≡ false)
    go false f e = (cc, cc)
    go true true e = (cc, cc)
    go true false e = (refl, refl)

-- what is then answered
pub answered : {A : Type 0} (why : Option LatticeRefused) → Ok (tt {0}) ≡ unless why (tt {0}) → (value : A) → Ok value ≡ unless why value
answered (Some why) e value = cc
answered None e value = refl
