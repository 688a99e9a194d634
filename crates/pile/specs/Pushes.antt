-- When a layer is added to a pile, and why it is not.
use Rattle.std.specs.Prelude.{◌≡◌, true, List, [], ◌∷◌, ◌++◌, is_ok, Err}
use Rattle.plane.specs.Meaning.{Meaning, extent_of}
use Rattle.layers.specs.declared.layer.Layer.{Layer as AnyLayer}
use Rattle.layers.specs.Layer.{layer_extent}
use Rattle.pile.specs.declared.levels.Level.{Level}
use Rattle.pile.specs.declared.refused.PileRefused.{PileRefused}
use Rattle.pile.specs.declared.refused.PileRefused.TheVariants.{Layer, NoMemory}

-- the layer is accepted over the pile's meaning
abbrev pub Accepted : AnyLayer → Meaning → Type 0
Accepted l m = is_ok (layer_extent l (extent_of m)) ≡ true

-- it is refused as that layer is refused, or is accepted and there is no memory
abbrev pub Refuses : AnyLayer → Meaning → PileRefused → Type 0
Refuses l m (Layer why) = layer_extent l (extent_of m) ≡ Err why
Refuses l m NoMemory = Accepted l m

-- the levels with one more on top
abbrev pub with_level : List Level → AnyLayer → Meaning → List Level
with_level ls l m = ls ++ record { layer = l; below = extent_of m } ∷ []
