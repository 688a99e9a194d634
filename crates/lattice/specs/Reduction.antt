-- The reduction of a lattice to the vectors (P, 0) and (B, D).
--     Reduces     what P, B and D are
--     reduction   how they are found: Euclid's algorithm on the rows of the two vectors, the columns carried along
use Rattle.std.specs.Prelude.{◌≡◌, ℕ, zero, suc, ◌*◌, ◌/◌, ◌%◌, ◌<◌, ◌≤◌, ℤ, pos, negsuc, ◌-ℤ◌, ◌*ℤ◌, neg_ℤ, unsigned_abs}
use Rattle.ints.specs.Floor.{floor_mod}
use Rattle.lattice.specs.declared.vectors.Vectors.{Vectors}
use Rattle.lattice.specs.declared.reduced.Reduced.{Reduced}
use Rattle.lattice.specs.Lattice.{Combination, area}

-- z is a whole multiple of d
abbrev pub Divides : ℤ → ℤ → Type 0
Divides d z = (k : ℤ) × (z ≡ k *ℤ d)

-- P, B and D, by what they are
pub record Reduces (v : Vectors) (t : Reduced) : Type 0 where
  -- D is the greatest common divisor of the two row entries
  pub height : 1 ≤ t.d
  pub divides_a : Divides (pos t.d) v.ay
  pub divides_b : Divides (pos t.d) v.by
  pub greatest : (k : ℤ) → Divides k v.ay → Divides k v.by → Divides k (pos t.d)
  -- P is the determinant's size divided by D
  pub size : t.p * t.d ≡ unsigned_abs (area v)
  -- B is below P
  pub below : t.b < t.p
  -- (P, 0) and (B, D) are of the lattice
  pub along : Combination v (pos t.p) (pos 0)
  pub across : Combination v (pos t.b) (pos t.d)

-- the reduced vectors
abbrev pub basis : Reduced → Vectors
basis t = record { ax = pos t.p; ay = pos 0; bx = pos t.b; by = pos t.d }

-- the columns of a vector, turned so that its row is not below 0
abbrev pub upright : ℤ → ℤ → ℤ
upright x (pos n) = x
upright x (negsuc n) = neg_ℤ x

-- from the vectors (x, d) and (z, 0)
abbrev pub finished : ℤ → ℕ → ℤ → Reduced
finished x d z = record { p = unsigned_abs z; b = floor_mod x (unsigned_abs z); d = d }

-- Euclid's steps on the vectors (x, m) and (z, n), of which the first argument counts enough
unfoldable pub euclid : ℕ → ℤ → ℕ → ℤ → ℕ → Reduced
euclid zero x m z n = finished x m z
euclid (suc s) x m z zero = finished x m z
euclid (suc s) x m z (suc n) = euclid s z (suc n) (x -ℤ pos (m / suc n) *ℤ z) (m % suc n)

unfoldable pub reduction : Vectors → Reduced
reduction v = euclid (unsigned_abs v.by) (upright v.ax v.ay) (unsigned_abs v.ay) (upright v.bx v.by) (unsigned_abs v.by)
