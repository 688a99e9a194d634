-- What the base of a pile means: its own symmetry.
use Rattle.plane.specs.Meaning.{Meaning}
use Rattle.groups.specs.Tabled.{tabled}
use Rattle.lattice.specs.Oblique.{oblique}
use Rattle.pile.specs.declared.base.Base.{Base}
use Rattle.pile.specs.declared.base.Base.TheVariants.{Tabled, Oblique}

abbrev pub based : Base → Meaning
based (Tabled t) = tabled t.group.number t.p t.q
based (Oblique o) = oblique o.vectors
