-- The refusals of layers: their numbers, and when each comes.
--     fair    the shift or the matrix keeps the rules
--     roomy   a span of at least 1 is left, and the hem is at most 1,000,000,000
use Rattle.std.specs.Prelude.{ℕ, Bool, true, false, ◌&&◌, Ok, Err, Result, nat_le}
use Rattle.plane.specs.declared.fold.Extent.{Extent}
use Rattle.plane.specs.Meaning.{Meaning}
use Rattle.layers.specs.declared.refused.LayerRefused.{LayerRefused}
use Rattle.layers.specs.declared.refused.LayerRefused.TheVariants.{AgainstRules, NoRoom}
use Rattle.layers.specs.declared.refused.Refused.{Refused}

abbrev pub layer_number : LayerRefused → ℕ
layer_number AgainstRules = 15
layer_number NoRoom = 16

abbrev pub roomy : Extent → Bool
roomy e = nat_le 1 e.span && nat_le e.hem 1_000_000_000

abbrev pub verdict : Bool → Bool → Extent → Result Extent LayerRefused
verdict false room e = Err AgainstRules
verdict true false e = Err NoRoom
verdict true true e = Ok e

-- the extent that a layer would have, or its refusal: against the rules first, then for want of room
abbrev pub judged : Bool → Extent → Result Extent LayerRefused
judged fair e = verdict fair (roomy e) e

-- what a constructor answers: the layer, or the symmetry below beside the refusal
abbrev pub made_over : {L S : Type 0} → Result Extent LayerRefused → L → S → Result L (Refused S)
made_over (Ok e) layer below = Ok layer
made_over (Err why) layer below = Err (record { below = below; why = why })

-- the meaning of a layer: the first where it is accepted. One that is not accepted is never made; it would change nothing
abbrev pub settled : Result Extent LayerRefused → Meaning → Meaning → Meaning
settled (Ok e) over below = over
settled (Err why) over below = below
