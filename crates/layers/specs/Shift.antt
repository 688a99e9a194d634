-- A symmetry shifted by (u, v): each operation g becomes t g t⁻¹, where t is the translation by (u, v).
--     reach    the larger of |u| and |v|
--     short    the reach is at most 1000
use Rattle.std.specs.Prelude.{ℕ, ◌+◌, ◌-◌, max, Bool, ◌+ℤ◌, neg_ℤ, Result, nat_le, unsigned_abs}
use Rattle.plane.specs.declared.cell.Cell.{Cell}
use Rattle.plane.specs.declared.fold.Extent.{Extent}
use Rattle.plane.specs.Operation.{translation}
use Rattle.plane.specs.Meaning.{Meaning, extent_of}
use Rattle.layers.specs.declared.refused.LayerRefused.{LayerRefused}
use Rattle.layers.specs.declared.vector.Vector.{Vector}
use Rattle.layers.specs.Refusals.{judged, settled}
use Rattle.layers.specs.Conjugate.{conjugated}

abbrev pub reach : Vector → ℕ
reach w = max (unsigned_abs w.u) (unsigned_abs w.v)

abbrev pub short : Vector → Bool
short w = nat_le (reach w) 1000

-- the vector the other way
abbrev pub reverse : Vector → Vector
reverse w = record { u = neg_ℤ w.u; v = neg_ℤ w.v }

-- the cell u columns and v rows on
abbrev pub moved : Vector → Cell → Cell
moved w p = record { x = p.x +ℤ w.u; y = p.y +ℤ w.v }

-- a shifted symmetry, by the rules
abbrev pub moved_by : Vector → Meaning → Meaning
moved_by w m = record {
  operations = conjugated (translation w.u w.v) (translation (neg_ℤ w.u) (neg_ℤ w.v)) m.operations;
  span = m.span - reach w;
  hem = m.hem + reach w;
  home = λ p. moved w (m.home (moved (reverse w) p));
  kinds = λ p. m.kinds (moved (reverse w) p);
}

-- its extent, or why the shift is refused
abbrev pub shift_extent : Vector → Extent → Result Extent LayerRefused
shift_extent w e = judged (short w) (record { span = e.span - reach w; hem = e.hem + reach w })

-- the meaning of a shift that is held over a symmetry
abbrev pub shifted : Vector → Meaning → Meaning
shifted w m = settled (shift_extent w (extent_of m)) (moved_by w m) m
