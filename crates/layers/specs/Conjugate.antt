-- A set of operations seen from another frame.
use Rattle.plane.specs.Operation.{Operation, compose}

-- the set of all t h t⁻¹ for h in the set given: g is in it when t⁻¹ g t is in that set
abbrev pub conjugated : Operation → Operation → (Operation → Type 0) → Operation → Type 0
conjugated t t⁻¹ ops g = ops (compose (compose t⁻¹ g) t)
