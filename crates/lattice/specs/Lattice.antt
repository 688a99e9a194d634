-- The lattice of two vectors: the translations by their whole combinations.
--     combination   i times the first vector plus j times the second, for whole numbers i and j
--     area          the determinant ax by - ay bx; it is 0 exactly for parallel vectors, the zero vector among them
use Rattle.std.specs.Prelude.{◌≡◌, Bool, ◌&&◌, ℤ, ◌+ℤ◌, ◌-ℤ◌, ◌*ℤ◌, Option, ◌==◌, nat_le, unsigned_abs}
use Rattle.plane.specs.Operation.{Operation, translation}
use Rattle.lattice.specs.declared.refused.LatticeRefused.{LatticeRefused}
use Rattle.lattice.specs.declared.vectors.Vectors.{Vectors}
use Rattle.lattice.specs.Refusals.{verdict}

-- (x, y) is a whole combination of the two vectors
abbrev pub Combination : Vectors → ℤ → ℤ → Type 0
Combination v x y = (i : ℤ) × (j : ℤ) × (x ≡ i *ℤ v.ax +ℤ j *ℤ v.bx) × (y ≡ i *ℤ v.ay +ℤ j *ℤ v.by)

-- the operations: the translations by whole combinations, all even
abbrev pub lattice : Vectors → Operation → Type 0
lattice v g = (x : ℤ) × (y : ℤ) × Combination v x y × (g ≡ translation x y)

abbrev pub area : Vectors → ℤ
area v = v.ax *ℤ v.by -ℤ v.ay *ℤ v.bx

-- no entry is beyond 256 either way
abbrev pub small : Vectors → Bool
small v = (nat_le (unsigned_abs v.ax) 256 && nat_le (unsigned_abs v.ay) 256) && (nat_le (unsigned_abs v.bx) 256 && nat_le (unsigned_abs v.by) 256)

abbrev pub parallel : Vectors → Bool
parallel v = unsigned_abs (area v) == 0

-- why two vectors are refused, if they are
abbrev pub refusal : Vectors → Option LatticeRefused
refusal v = verdict (small v) (parallel v)
