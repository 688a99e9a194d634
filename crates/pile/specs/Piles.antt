-- What a pile is: its base, its levels and its meaning.
use Rattle.std.specs.Prelude.{List, vec_items}
use Rattle.plane.specs.Meaning.{Meaning}
use Rattle.pile.specs.declared.levels.Level.{Level}
use Rattle.pile.specs.declared.pile.Pile.{Pile}
use Rattle.pile.specs.Base.{based}
use Rattle.pile.specs.Levels.{piled}

abbrev pub levels_of : Pile → List Level
levels_of s = vec_items s.levels

abbrev pub pile_meaning : Pile → Meaning
pile_meaning s = piled (levels_of s) (based s.base)
