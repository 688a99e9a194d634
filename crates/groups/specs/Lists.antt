-- Lists: what a member is, and whether some or every member passes a test.
use Rattle.std.specs.Prelude.{◌≡◌, Bool, ◌⊎◌, List, [], ◌∷◌}
use Rattle.std.specs.List.{list_any, list_all}

module _ {A : Type 0} where
  abbrev pub In : A → List A → Type 0
  In a [] = ⊥
  In a (x ∷ xs) = (a ≡ x) ⊎ In a xs

  abbrev pub some : (A → Bool) → List A → Bool
  some = list_any

  abbrev pub every : (A → Bool) → List A → Bool
  every = list_all
