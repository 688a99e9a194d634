-- The search for a symbol.
use Rattle.std.proofs.Common.{◌≡◌, ℕ, zero, suc, ◌+◌, ◌≤◌, Bool, true, false, cond, eqb, List, [], ◌∷◌, map, Some, None, Option, Bor, MatchOption, sym, refl, ap, ◌∙◌, add-one, arith, eqb-true}
use Rattle.std.specs.Prelude.{position}
use Rattle.std.specs.List.{position_from}
use Rattle.std.specs.Str.{bytes_eq}
use Rattle.std.proofs.lemmas.Iterator.Adapters.{position_from-zero}
use Rattle.std.proofs.lemmas.Slice.Eq.{bytes_eq-Decides}
use Rattle.groups.specs.Symbols.{symbols, symbol_of, named_from, number_named, SymbolsTell}
use Rattle.groups.specs.Members.{every_below, below_in}
use Rattle.groups.proofs.Placing.{known_low, known_high}

-- ---- the place of a symbol in the list
-- the number, counted from k, of the first symbol that is the text, and 0 where none is
abbrev counted : List (List ℕ) → ℕ → List ℕ → ℕ
counted [] k s = 0
counted (t ∷ ts) k s = cond (bytes_eq t s) k (counted ts (suc k) s)

all_counted : (s : List ℕ) → counted symbols 1 s ≡ number_named s
unfolding number_named symbol_of symbols
all_counted s = refl

abbrev number_at : Option ℕ → ℕ
number_at None = 0
number_at (Some i) = suc i

counted_is : (ts : List (Bor (List ℕ))) (k : ℕ) (s : List ℕ) → counted (map (λ t. t.now) ts) (suc k) s ≡ number_at (position_from (λ t. bytes_eq t.now s) k ts)
counted_is [] k s = refl
counted_is (t ∷ ts) k s = go (bytes_eq t.now s) (counted_is ts (suc k) s ∙ ap (λ n. number_at (position_from (λ t. bytes_eq t.now s) n ts)) (sym (add-one k)))
  where
    go : (b : Bool) → counted (map (λ t. t.now) ts) (suc (suc k)) s ≡ number_at (position_from (λ t. bytes_eq t.now s) (k + 1) ts) → cond b (suc k) (counted (map (λ t. t.now) ts) (suc (suc k)) s) ≡ number_at (cond b (Some k) (position_from (λ t. bytes_eq t.now s) (k + 1) ts))
    go true e = refl
    go false e = e

-- what the search for a symbol finds
pub named : (us ts : List (Bor (List ℕ))) (s : List ℕ) (r : Option ℕ) → us ≡ ts → r ≡ position (λ t. bytes_eq t.now s) ts → map (λ t. t.now) ts ≡ symbols
    → MatchOption r (number_named s ≡ 0) (λ i. i + 1 ≡ number_named s)
named us ts s r _ e all =
    go r (sym (all_counted s) ∙ ap (λ (us : List (List ℕ)). counted us 1 s) (sym all) ∙ counted_is ts 0 s ∙ ap number_at (sym (e ∙ position_from-zero (λ t. bytes_eq t.now s) ts)))
  where
    go : (r : Option ℕ) → number_named s ≡ number_at r → MatchOption r (number_named s ≡ 0) (λ i. i + 1 ≡ number_named s)
    go None e = e
    go (Some i) e = add-one i ∙ sym e

-- ---- symbols and numbers agree
told_test : ℕ → Bool
told_test k = eqb (number_named (symbol_of (suc k))) (suc k)

whole : every_below told_test 17 ≡ true
unfolding told_test number_named symbol_of symbols
whole = refl

told : (n : ℕ) → 1 ≤ n → n ≤ 17 → number_named (symbol_of n) ≡ n
unfolding told_test
told zero l h = absurd (omega arith)
told (suc k) l h = eqb-true (number_named (symbol_of (suc k))) (suc k) (below_in told_test 17 whole k (omega arith))

-- what the search finds has the symbol, or is 0
found_from : (m k : ℕ) (s : List ℕ) → 1 ≤ named_from m k s → symbol_of (named_from m k s) ≡ s
found_from zero k s h = absurd (omega arith)
found_from (suc m) k s h = go (bytes_eq (symbol_of k) s) refl h (found_from m (suc k) s)
  where
    go : (b : Bool) → bytes_eq (symbol_of k) s ≡ b → 1 ≤ cond b k (named_from m (suc k) s) → (1 ≤ named_from m (suc k) s → symbol_of (named_from m (suc k) s) ≡ s) → symbol_of (cond b k (named_from m (suc k) s)) ≡ s
    go true e h rest = (bytes_eq-Decides (symbol_of k) s).0 e
    go false e h rest = rest h

found : (s : List ℕ) → 1 ≤ number_named s → symbol_of (number_named s) ≡ s
unfolding number_named
found s h = found_from 17 1 s h

pub symbols_tell : SymbolsTell
symbols_tell = record {
  number_of_symbol = λ n k. told n (known_low n k) (known_high n k);
  symbol_of_number = λ s k. found s (known_low (number_named s) k);
}
