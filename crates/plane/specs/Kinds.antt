-- Sets of kinds. The kind of an operation is 2 for an odd one, plus 1 for an improper one.
use Rattle.std.specs.Prelude.{Bool, true, false, ◌&&◌, ◌||◌}
use Rattle.plane.specs.declared.kinds.Kinds.{Kinds}

-- whether a set has the kind of that parity (odd or not) and that sign (improper or not)
abbrev pub has : Kinds → Bool → Bool → Bool
has k false false = k.even_proper
has k false true = k.even_improper
has k true false = k.odd_proper
has k true true = k.odd_improper

-- whether a set has both a proper and an improper kind
abbrev pub on_mirror : Kinds → Bool
on_mirror k = (k.even_proper || k.odd_proper) && (k.even_improper || k.odd_improper)
