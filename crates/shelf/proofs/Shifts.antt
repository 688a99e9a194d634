-- What is held and what is free after a place of a table is written, opened or closed.
use Rattle.std.proofs.Common.{◌≡◌, ℕ, ◌+◌, ◌-◌, ◌<◌, ◌≤◌, List, ◌++◌, length, take, drop, set, arith, rules}
use lib.Seq.{paste}
use Rattle.std.specs.List.{insert, remove}
use Rattle.std.proofs.lemmas.List.{places, same_lists, get_or-set_same}
use Rattle.std.proofs.lemmas.Bool.{cases_eq}

module _ {R : Type 0} (xs : List R) (n : ℕ) where
  pub opened : (at : ℕ) (r : R) → at ≤ n → n < length xs → set (paste xs (at + 1) (drop at xs) (n - at)) at r ≡ insert (take n xs) at r ++ drop (n + 1) xs
  opened at r l m = same_lists _ _ (search (rules, places)) (λ k d h. let e = cases_eq k at in grind (arith, places, get_or-set_same))

  pub closed : (at : ℕ) → at < n → n ≤ length xs → paste xs at (drop (at + 1) xs) (n - (at + 1)) ≡ remove (take n xs) at ++ drop (n - 1) xs
  closed at l m = same_lists _ _ (search (rules, places)) (λ k d h. grind (arith, places))
