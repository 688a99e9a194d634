-- The levels of a pile, the lowest first: its layers, each with the extent of what is below it.
--     piled      the meaning of the pile: the layers' own meanings, applied in turn to that of the base
--     levelled   each level holds the extent of what is below it
use Rattle.std.specs.Prelude.{Bool, true, ◌&&◌, List, [], ◌∷◌, Ok, Err, Result, ◌==◌}
use Rattle.plane.specs.declared.cell.Cell.{Cell}
use Rattle.plane.specs.declared.fold.Extent.{Extent}
use Rattle.plane.specs.declared.fold.Fold.{Fold}
use Rattle.plane.specs.declared.fold.FoldRefused.{FoldRefused}
use Rattle.plane.specs.Meaning.{Meaning, extent_of}
use Rattle.layers.specs.Layer.{layer_extent, layered, settled_extent, lowered, raised}
use Rattle.pile.specs.declared.levels.Level.{Level}

abbrev pub piled : List Level → Meaning → Meaning
piled [] m = m
piled (l ∷ ls) m = piled ls (layered l.layer m)

abbrev pub same_extent : Extent → Extent → Bool
same_extent e f = e.span == f.span && e.hem == f.hem

abbrev pub levelled : List Level → Meaning → Bool
levelled [] m = true
levelled (l ∷ ls) m = same_extent l.below (extent_of m) && levelled ls (layered l.layer m)

-- the extent of one level, and of the highest
abbrev pub level_extent : Level → Extent
level_extent l = settled_extent (layer_extent l.layer l.below) l.below

abbrev pub top_extent : List Level → Extent → Extent
top_extent [] e = e
top_extent (l ∷ ls) e = top_extent ls (level_extent l)

abbrev pub lowered_by : Level → Result Cell FoldRefused → Result Cell FoldRefused
lowered_by l (Ok p) = lowered l.layer l.below p
lowered_by l (Err e) = Err e

-- the cell that is folded in the base: lowered by the highest level first
abbrev pub lowered_through : List Level → Cell → Result Cell FoldRefused
lowered_through [] p = Ok p
lowered_through (l ∷ ls) p = lowered_by l (lowered_through ls p)

-- the fold of the pile, from the fold of the base: raised by the lowest level first
abbrev pub raised_through : List Level → Fold → Fold
raised_through [] f = f
raised_through (l ∷ ls) f = raised_through ls (raised l.layer l.below f)
