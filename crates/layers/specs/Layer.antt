-- A layer of any kind: its extent, its meaning, and how a fold passes through it.
--     lowered   the cell that is folded below in place of a cell, or a refusal where that is off the layer's span
--     raised    the layer's fold, made from the fold below
use Rattle.std.specs.Prelude.{Bool, true, false, Ok, Err, Result}
use Rattle.std.specs.Result.{result_unwrap_or}
use Rattle.plane.specs.declared.cell.Cell.{Cell}
use Rattle.plane.specs.declared.kinds.Kinds.{Kinds}
use Rattle.plane.specs.declared.fold.Extent.{Extent}
use Rattle.plane.specs.declared.fold.Fold.{Fold}
use Rattle.plane.specs.declared.fold.FoldRefused.{FoldRefused}
use Rattle.plane.specs.declared.fold.FoldRefused.TheVariants.{OffSpan}
use Rattle.plane.specs.Cells.{inside}
use Rattle.plane.specs.Meaning.{Meaning}
use Rattle.layers.specs.declared.refused.LayerRefused.{LayerRefused}
use Rattle.layers.specs.declared.layer.Layer.{Layer}
use Rattle.layers.specs.declared.layer.Layer.TheVariants.{Shift, Recast, Counterchange}
use Rattle.layers.specs.Shift.{short, reverse, moved, moved_by, shift_extent, shifted}
use Rattle.layers.specs.Recast.{fair, inverse, applied, recast_by, recast_extent, recasted}
use Rattle.layers.specs.Counterchange.{exchanged, counterchanged}

-- the shift or the matrix is one of those that the rules allow
abbrev pub keeps : Layer → Bool
keeps (Shift w) = short w
keeps (Recast w) = fair w
keeps Counterchange = true

-- the layer's extent over that of the symmetry below, or why it is refused
abbrev pub layer_extent : Layer → Extent → Result Extent LayerRefused
layer_extent (Shift w) e = shift_extent w e
layer_extent (Recast w) e = recast_extent w e
layer_extent Counterchange e = Ok e

-- the meaning of an accepted layer, by the rules
abbrev pub laid : Layer → Meaning → Meaning
laid (Shift w) m = moved_by w m
laid (Recast w) m = recast_by w m
laid Counterchange m = counterchanged m

-- the meaning of a layer that is held over a symmetry
abbrev pub layered : Layer → Meaning → Meaning
layered (Shift w) m = shifted w m
layered (Recast w) m = recasted w m
layered Counterchange m = counterchanged m

-- where a cell goes below, and where a home from below goes
abbrev pub down : Layer → Cell → Cell
down (Shift w) p = moved (reverse w) p
down (Recast w) p = applied (inverse w) p
down Counterchange p = p

abbrev pub up : Layer → Cell → Cell
up (Shift w) p = moved w p
up (Recast w) p = applied w p
up Counterchange p = p

-- the kinds, from the kinds below
abbrev pub recounted : Layer → Kinds → Kinds
recounted (Shift w) k = k
recounted (Recast w) k = k
recounted Counterchange k = exchanged k

-- the extent of a layer that is held over a symmetry
abbrev pub settled_extent : Result Extent LayerRefused → Extent → Extent
settled_extent = result_unwrap_or

-- the cell, if it is within the span
abbrev pub in_span : Bool → Cell → Result Cell FoldRefused
in_span true p = Ok p
in_span false p = Err OffSpan

-- by the layer's extent, or its refusal
abbrev pub lower : Result Extent LayerRefused → Layer → Cell → Result Cell FoldRefused
lower (Ok own) l p = in_span (inside own.span p) (down l p)
lower (Err why) l p = Ok p

abbrev pub lowered : Layer → Extent → Cell → Result Cell FoldRefused
lowered l below p = lower (layer_extent l below) l p

-- a home beyond the hem is none of the symmetry below, and stays
abbrev pub raise : Result Extent LayerRefused → Bool → Layer → Fold → Fold
raise (Ok own) true l f = record { home = up l f.home; kinds = recounted l f.kinds }
raise (Ok own) false l f = f
raise (Err why) near l f = f

abbrev pub raised : Layer → Extent → Fold → Fold
raised l below f = raise (layer_extent l below) (inside below.hem f.home) l f
