use Rattle.lattice.specs.Theorems.{SameLattice}
use Rattle.lattice.specs.Reducing.{into_basis, from_basis}
use Rattle.lattice.proofs.OneOnly.{one_reduction}
use Rattle.lattice.specs.Boxing.{homes_in_box}
use Rattle.lattice.proofs.theorems.lattice_laws.Goals as goal

same-lattice : SameLattice
same-lattice v t r g = (λ m. (m.0, m.1, into_basis v t r m.0 m.1 m.2, m.3), λ m. (m.0, m.1, from_basis v t r m.0 m.1 m.2, m.3))

pub returns : goal.returns
returns c = record { one = one_reduction; same = same-lattice; boxed = homes_in_box }
