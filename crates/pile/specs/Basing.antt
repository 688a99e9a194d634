-- The laws of a base are those of its symmetry.
use Rattle.plane.specs.Laws.{Lawful}
use Rattle.groups.specs.Homing.{tabled_laws}
use Rattle.lattice.specs.Grouping.{oblique_laws}
use Rattle.pile.specs.declared.base.Base.{Base}
use Rattle.pile.specs.declared.base.Base.TheVariants.{Tabled, Oblique}
use Rattle.pile.specs.Base.{based}

pub base_laws : (b : Base) → Lawful (based b)
base_laws (Tabled t) = tabled_laws t.group.number t.p t.q t.group.listed t.suited
base_laws (Oblique o) = oblique_laws o.vectors o.short o.apart
