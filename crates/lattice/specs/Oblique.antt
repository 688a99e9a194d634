-- The oblique symmetry of two vectors: what it means.
use Rattle.std.specs.Prelude.{◌≡◌, ℕ, ◌<◌, true, false, pos, ◌-ℤ◌, ◌*ℤ◌}
use Rattle.ints.specs.Floor.{floor_mod, floor_div}
use Rattle.plane.specs.declared.cell.Cell.{Cell}
use Rattle.plane.specs.declared.kinds.Kinds.{Kinds}
use Rattle.plane.specs.Meaning.{Meaning}
use Rattle.lattice.specs.declared.vectors.Vectors.{Vectors}
use Rattle.lattice.specs.declared.reduced.Reduced.{Reduced}
use Rattle.lattice.specs.Lattice.{lattice}
use Rattle.lattice.specs.Reduction.{reduction}

-- a cell with 0 ≤ x < P and 0 ≤ y < D
pub record InBox (t : Reduced) (q : Cell) : Type 0 where
  pub column : (n : ℕ) × (q.x ≡ pos n) × (n < t.p)
  pub row : (n : ℕ) × (q.y ≡ pos n) × (n < t.d)

-- the cell moved into the box: by whole (B, D) into its rows, then by whole (P, 0) into its columns
abbrev pub boxed : Reduced → Cell → Cell
boxed t q = record {
  x = pos (floor_mod (q.x -ℤ floor_div q.y t.d *ℤ pos t.b) t.p);
  y = pos (floor_mod q.y t.d);
}

-- every operation is even and proper
abbrev pub proper_alone : Kinds
proper_alone = record { even_proper = true; even_improper = false; odd_proper = false; odd_improper = false }

abbrev pub oblique : Vectors → Meaning
oblique v = record {
  operations = lattice v;
  span = 1_000_000;
  hem = 131_072;
  home = boxed (reduction v);
  kinds = λ _. proper_alone;
}
