-- A list of homes with one more, unless it is there.
use Rattle.std.proofs.Common.{◌≡◌, Bool, true, false, cond, ◌⊎◌, List, [], ◌∷◌, ◌++◌, sym, refl, subst, inl, inr}
use Rattle.std.proofs.lemmas.Bool.{both_ways}
use Rattle.plane.specs.declared.cell.Cell.{Cell}
use Rattle.plane.specs.Cells.{same}
use Rattle.plane.proofs.Order.{same_is, same_of}
use Rattle.groups.specs.Lists.{In, some}
use Rattle.groups.specs.Members.{some_in, in_some}
use Rattle.census.specs.Homes.{Distinct}
use Rattle.census.specs.Windows.{noted}
use Rattle.census.proofs.Places.{in_either, in_left, in_right}

-- ---- the test
listed : (xs : List Cell) (h : Cell) → In h xs → some (same h) xs ≡ true
listed xs h i = in_some (same h) xs h i (same_of h h refl)

distinct_more : (xs : List Cell) (h : Cell) → Distinct xs → (In h xs → ⊥) → Distinct (xs ++ h ∷ [])
distinct_more [] h d n = (λ i. i, tt)
distinct_more (x ∷ xs) h d n = (λ i. go (in_either xs (h ∷ []) x i), distinct_more xs h d.1 (λ i. n (inr i)))
  where
    go : In x xs ⊎ In x (h ∷ []) → ⊥
    go (inl j) = d.0 j
    go (inr (inl e)) = n (inl (sym e))
    go (inr (inr j)) = absurd j

-- ---- what noting does
module _ (xs : List Cell) (h : Cell) where
  by_listed : (P : List Cell → Type 0) → (In h xs → P xs) → ((In h xs → ⊥) → P (xs ++ h ∷ [])) → P (noted xs h)
  by_listed P old new = go (some (same h) xs) refl
    where
      go : (b : Bool) → some (same h) xs ≡ b → P (cond b xs (xs ++ h ∷ []))
      go true e = let w = some_in (same h) xs e in old (subst (λ (z : Cell). In z xs) (sym (same_is h w.0 w.2)) w.1)
      go false e = new (λ i. both_ways _ e (listed xs h i))

  pub noted_distinct : Distinct xs → Distinct (noted xs h)
  noted_distinct d = by_listed Distinct (λ _. d) (distinct_more xs h d)

  pub noted_kept : (g : Cell) → In g xs → In g (noted xs h)
  noted_kept g i = by_listed (In g) (λ _. i) (λ _. in_left xs (h ∷ []) g i)

  pub noted-has : In h (noted xs h)
  noted-has = by_listed (In h) (λ i. i) (λ _. in_right xs (h ∷ []) h (inl refl))

  one_more : {g : Cell} → In g xs ⊎ In g (h ∷ []) → In g xs ⊎ (g ≡ h)
  one_more (inl i) = inl i
  one_more (inr (inl e)) = inr e
  one_more (inr (inr i)) = absurd i

  pub noted_only : (g : Cell) → In g (noted xs h) → In g xs ⊎ (g ≡ h)
  noted_only g = by_listed (λ (ys : List Cell). In g ys → In g xs ⊎ (g ≡ h)) (λ _ i. inl i) (λ _ i. one_more (in_either xs (h ∷ []) g i))
