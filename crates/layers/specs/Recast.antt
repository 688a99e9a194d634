-- A symmetry recast by a matrix M: each operation g becomes M g M⁻¹.
--     volume   the determinant
--     small    no entry is beyond 8 either way
--     fair     small, with a determinant of 1 or -1
use Rattle.std.specs.Prelude.{◌*◌, ◌/◌, Bool, false, ◌&&◌, ℤ, pos, ◌+ℤ◌, ◌-ℤ◌, ◌*ℤ◌, neg_ℤ, Result, ◌==◌, nat_le, unsigned_abs}
use Rattle.plane.specs.declared.cell.Cell.{Cell}
use Rattle.plane.specs.declared.fold.Extent.{Extent}
use Rattle.plane.specs.Operation.{Operation}
use Rattle.plane.specs.Meaning.{Meaning, extent_of}
use Rattle.layers.specs.declared.refused.LayerRefused.{LayerRefused}
use Rattle.layers.specs.declared.matrix.Matrix.{Matrix}
use Rattle.layers.specs.Refusals.{judged, settled}
use Rattle.layers.specs.Conjugate.{conjugated}

abbrev pub volume : Matrix → ℤ
volume w = w.a *ℤ w.d -ℤ w.b *ℤ w.c

abbrev pub small : Matrix → Bool
small w = (nat_le (unsigned_abs w.a) 8 && nat_le (unsigned_abs w.b) 8) && (nat_le (unsigned_abs w.c) 8 && nat_le (unsigned_abs w.d) 8)

abbrev pub fair : Matrix → Bool
fair w = small w && unsigned_abs (volume w) == 1

-- the matrix that undoes a fair one
abbrev pub inverse : Matrix → Matrix
inverse w = record { a = volume w *ℤ w.d; b = neg_ℤ (volume w *ℤ w.b); c = neg_ℤ (volume w *ℤ w.c); d = volume w *ℤ w.a }

-- the operation with that matrix and no shift, even
abbrev pub linear : Matrix → Operation
linear w = record { a = w.a; b = w.b; c = w.c; d = w.d; e = pos 0; f = pos 0; odd = false }

-- the matrix times the cell
abbrev pub applied : Matrix → Cell → Cell
applied w p = record { x = w.a *ℤ p.x +ℤ w.b *ℤ p.y; y = w.c *ℤ p.x +ℤ w.d *ℤ p.y }

-- a recast symmetry, by the rules
abbrev pub recast_by : Matrix → Meaning → Meaning
recast_by w m = record {
  operations = conjugated (linear w) (linear (inverse w)) m.operations;
  span = m.span / 16;
  hem = m.hem * 16;
  home = λ p. applied w (m.home (applied (inverse w) p));
  kinds = λ p. m.kinds (applied (inverse w) p);
}

-- its extent, or why the matrix is refused
abbrev pub recast_extent : Matrix → Extent → Result Extent LayerRefused
recast_extent w e = judged (fair w) (record { span = e.span / 16; hem = e.hem * 16 })

-- the meaning of a recast that is held over a symmetry
abbrev pub recasted : Matrix → Meaning → Meaning
recasted w m = settled (recast_extent w (extent_of m)) (recast_by w m) m
