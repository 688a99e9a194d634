-- Whether two cells are one is decided by their test.
use Rattle.std.proofs.Common.{◌≡◌, Bool, true, false, ◌⊎◌, refl, inl, inr}
use Rattle.std.proofs.lemmas.Bool.{both_ways}
use Rattle.plane.specs.declared.cell.Cell.{Cell}
use Rattle.plane.specs.Cells.{same}
use Rattle.plane.proofs.Order.{same_is, same_of}

abbrev pub Decided : Cell → Cell → Bool → Type 0
Decided p q b = ((b ≡ true) × (p ≡ q)) ⊎ ((b ≡ false) × (p ≡ q → ⊥))

pub same_decides : (p q : Cell) → Decided p q (same p q)
same_decides p q = go (same p q) (same_is p q) (same_of p q)
  where
    go : (b : Bool) → (b ≡ true → p ≡ q) → (p ≡ q → b ≡ true) → Decided p q b
    go true is of = inl (refl, is refl)
    go false is of = inr (refl, λ e. both_ways false refl (of e))
