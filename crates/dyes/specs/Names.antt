-- Names of dyes, as bytes.
--     letter       a byte from a to z
--     well_formed  a text of one to eight letters
--     filled       the text, filled up with 0 to eight bytes
--     lexical      the order of byte strings by their first different byte, where an end is before every byte
use Rattle.std.specs.Prelude.{◌≡◌, ℕ, ◌-◌, Bool, true, false, cond, ◌&&◌, List, [], ◌∷◌, ◌++◌, length, replicate, Ok, Err, Result, nat_le, nat_lt}
use Rattle.std.specs.List.{list_all}
use Rattle.dyes.specs.declared.name.DyeName.{DyeName}
use Rattle.dyes.specs.declared.refusal.DyeRefused.{DyeRefused}
use Rattle.dyes.specs.declared.refusal.DyeRefused.TheVariants.{Malformed}

abbrev pub letter : ℕ → Bool
letter b = nat_le 97 b && nat_le b 122

abbrev pub well_formed : List ℕ → Bool
well_formed text = nat_le 1 (length text) && (nat_le (length text) 8 && list_all letter text)

abbrev pub filled : List ℕ → List ℕ
filled text = text ++ replicate (8 - length text) 0

-- the name that a text spells, or a refusal exactly where it is malformed
abbrev pub spelled : List ℕ → Result DyeName DyeRefused
spelled text = cond (well_formed text) (Ok (record { letters = filled text })) (Err Malformed)

abbrev pub blank_name : DyeName
blank_name = record { letters = replicate 8 0 }

abbrev pub lexical : List ℕ → List ℕ → Bool
lexical [] [] = false
lexical [] (y ∷ ys) = true
lexical (x ∷ xs) [] = false
lexical (x ∷ xs) (y ∷ ys) = cond (nat_lt x y) true (cond (nat_lt y x) false (lexical xs ys))

-- names are in the order of the texts that spell them, so that a name is before its longer continuations
abbrev pub TextsOrdered : Type 0
TextsOrdered = (t u : List ℕ) → well_formed t ≡ true → well_formed u ≡ true → lexical (filled t) (filled u) ≡ lexical t u
