-- A walk over the rows of a group.
use Rattle.std.proofs.Common.{◌≡◌, Bool, ◌||◌, List, [], ◌∷◌, map, ℤ, refl, ap}
use Rattle.groups.specs.declared.position.Position.{Position}
use Rattle.groups.specs.Lists.{some}
use Rattle.groups.specs.Positions.{position_of}

-- a test of each position, made of its numbers
pub some-map : (f : Position → Bool) (rs : List (List ℤ)) → some (λ r. f (position_of r)) rs ≡ some f (map position_of rs)
some-map f [] = refl
some-map f (r ∷ rs) = ap (λ b. f (position_of r) || b) (some-map f rs)
