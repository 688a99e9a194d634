-- The order of byte strings: that of the library, what one place tells, and that it is total.
use Rattle.std.specs.Prelude.{◌≡◌, ℕ, ◌+◌, ◌<◌, ◌≤◌, Bool, true, false, Some, List, ◌∷◌, length, drop, nat_lt, slice_index, slice_index_or, refl}
use Rattle.std.proofs.Common.{sym, ap, ap₂, ◌∙◌, arith}
use Rattle.std.proofs.lemmas.Cmp.{same_from_slice_cmp, same_from_slice_cmp_tested, tied_itself, nat_list_cmp_total}
use Rattle.std.proofs.lemmas.Map.Text.{is_eq-slice_cmp}
use Rattle.std.proofs.lemmas.Slice.Eq.{bytes_eq-Decides}
use Rattle.std.proofs.lemmas.Bool.{cond-true, cond-false, lt-ltb, le-ltb}
use Rattle.std.proofs.lemmas.Bool.Decides.{nat_tests}
use Rattle.std.proofs.lemmas.List.{drop_more, drop_all}
use Rattle.std.specs.Cmp.Lexicographic.{slice_cmp, slice_partial_cmp}
use Rattle.std.specs.Ordering.{is_lt, is_eq, is_some_and, nat_cmp}
use Rattle.std.specs.declared.cmp.Ordering.TheVariants.{Equal}
use Rattle.shelf.proofs.Ordering.{total_order}
use Rattle.shelf.specs.Keys.{TotalOrder}
use Rattle.dyes.specs.Names.{lexical}

pub lexical_is : (xs ys : List ℕ) → is_lt (slice_cmp nat_cmp xs ys) ≡ lexical xs ys
lexical_is xs ys = same_from_slice_cmp nat_cmp is_lt lexical refl (λ _ _. refl) (λ _ _. refl) (λ x y xs ys o h. grind (arith, nat_tests)) xs ys _ refl

-- and so is its test `<`
pub lexical_tested : (xs ys : List ℕ) (r : Bool) → r ≡ is_some_and is_lt (slice_partial_cmp (λ x y. Some (nat_cmp x y)) xs ys) → r ≡ lexical xs ys
lexical_tested = same_from_slice_cmp_tested nat_cmp is_lt lexical refl (λ _ _. refl) (λ _ _. refl) (λ x y xs ys o h. grind (arith, nat_tests))

pub lexical_irreflexive : (xs : List ℕ) → lexical xs xs ≡ false
lexical_irreflexive xs = sym (lexical_is xs xs) ∙ ap is_lt (tied_itself nat_list_cmp_total xs)

-- strings that tie are the same
pub same_bytes : (xs ys : List ℕ) → slice_cmp nat_cmp xs ys ≡ Equal → xs ≡ ys
same_bytes xs ys e = (bytes_eq-Decides xs ys).0 (sym (is_eq-slice_cmp xs ys) ∙ ap is_eq e)

-- the order is total
bytes_ordered : TotalOrder {R = List ℕ} (record { key = λ xs. xs; before = lexical })
bytes_ordered = total_order _ (slice_cmp nat_cmp) nat_list_cmp_total (λ xs ys. sym (lexical_is xs ys)) same_bytes

pub lexical_transitive : (xs ys zs : List ℕ) → lexical xs ys ≡ true → lexical ys zs ≡ true → lexical xs zs ≡ true
lexical_transitive = bytes_ordered.transitive

pub lexical_total : (xs ys : List ℕ) → lexical xs ys ≡ false → lexical ys xs ≡ false → xs ≡ ys
lexical_total = bytes_ordered.total

-- the first bytes decide, or are the same
less : (x y : ℕ) (xs ys : List ℕ) → x < y → lexical (x ∷ xs) (y ∷ ys) ≡ true
less x y xs ys l = cond-true (nat_lt x y) _ _ (lt-ltb x y l)

more : (x y : ℕ) (xs ys : List ℕ) → y < x → lexical (x ∷ xs) (y ∷ ys) ≡ false
more x y xs ys l = cond-false (nat_lt x y) _ _ (le-ltb x y (omega arith)) ∙ cond-true (nat_lt y x) _ _ (lt-ltb y x l)

level : (x y : ℕ) (xs ys : List ℕ) → x ≡ y → lexical (x ∷ xs) (y ∷ ys) ≡ lexical xs ys
level x y xs ys e = cond-false (nat_lt x y) _ _ (le-ltb x y (omega arith)) ∙ cond-false (nat_lt y x) _ _ (le-ltb y x (omega arith))

-- one place of two strings
module _ (xs ys : List ℕ) (i : ℕ) (a : i < length xs) (b : i < length ys) where
  opened : lexical (drop i xs) (drop i ys) ≡ lexical (slice_index xs i ∷ drop (i + 1) xs) (slice_index ys i ∷ drop (i + 1) ys)
  opened = ap₂ lexical (drop_more xs i 0 a) (drop_more ys i 0 b)

  pub less_at : slice_index_or xs i 0 < slice_index ys i → lexical (drop i xs) (drop i ys) ≡ true
  less_at l = opened ∙ less (slice_index xs i) (slice_index ys i) (drop (i + 1) xs) (drop (i + 1) ys) l

  pub more_at : slice_index_or ys i 0 < slice_index xs i → lexical (drop i xs) (drop i ys) ≡ false
  more_at l = opened ∙ more (slice_index xs i) (slice_index ys i) (drop (i + 1) xs) (drop (i + 1) ys) l

  pub level_at : slice_index_or xs i 0 ≡ slice_index ys i → lexical (drop i xs) (drop i ys) ≡ lexical (drop (i + 1) xs) (drop (i + 1) ys)
  level_at e = opened ∙ level (slice_index xs i) (slice_index ys i) (drop (i + 1) xs) (drop (i + 1) ys) e

pub both_end : (xs ys : List ℕ) (i : ℕ) → length xs ≤ i → length ys ≤ i → lexical (drop i xs) (drop i ys) ≡ false
both_end xs ys i a b = ap₂ lexical (drop_all i xs a) (drop_all i ys b)
