-- The symbols of the seventeen plane groups.
use Rattle.std.specs.Prelude.{◌≡◌, ℕ, zero, suc, ◌-◌, true, cond, List, [], ◌∷◌, codes, slice_index_or}
use Rattle.std.specs.Str.{bytes_eq}
use Rattle.groups.specs.Rules.{known}

-- the symbols in the order of the groups' numbers, as bytes
unfoldable pub symbols : List (List ℕ)
symbols =
    codes "p1" ∷ codes "p2" ∷ codes "pm" ∷ codes "pg" ∷ codes "cm" ∷ codes "p2mm" ∷ codes "p2mg" ∷ codes "p2gg" ∷ codes "c2mm" ∷
    codes "p4" ∷ codes "p4mm" ∷ codes "p4gm" ∷ codes "p3" ∷ codes "p3m1" ∷ codes "p31m" ∷ codes "p6" ∷ codes "p6mm" ∷ []

-- the symbol of the group with that number
unfoldable pub symbol_of : ℕ → List ℕ
symbol_of number = slice_index_or symbols (number - 1) []

-- the first of m numbers from k on whose group has the symbol, and else 0
abbrev pub named_from : ℕ → ℕ → List ℕ → ℕ
named_from zero k s = 0
named_from (suc m) k s = cond (bytes_eq (symbol_of k) s) k (named_from m (suc k) s)

-- the number of the group with that symbol, and 0, which is no group's number, for any other text
unfoldable pub number_named : List ℕ → ℕ
number_named s = named_from 17 1 s

-- the two agree: each symbol is that of one group
pub record SymbolsTell : Type 0 where
  pub number_of_symbol : (number : ℕ) → known number ≡ true → number_named (symbol_of number) ≡ number
  pub symbol_of_number : (s : List ℕ) → known (number_named s) ≡ true → symbol_of (number_named s) ≡ s
