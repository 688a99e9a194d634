-- The polynomial identities of operations, by the solver of the crate ints.
use Rattle.std.proofs.Common.{◌≡◌, [], ◌∷◌, ℤ, ◌+ℤ◌, ◌-ℤ◌, ◌*ℤ◌}
use Rattle.ints.proofs.Ring.{var, ◌⊕◌, ◌⊖◌, ◌⊗◌, ring}

-- the composition of two operations, and of two linear parts, at a point
pub through : (a b a' b' c' d' x y e' f' e : ℤ) → (a *ℤ a' +ℤ b *ℤ c') *ℤ x +ℤ (a *ℤ b' +ℤ b *ℤ d') *ℤ y +ℤ (a *ℤ e' +ℤ b *ℤ f' +ℤ e) ≡ a *ℤ (a' *ℤ x +ℤ b' *ℤ y +ℤ e') +ℤ b *ℤ (c' *ℤ x +ℤ d' *ℤ y +ℤ f') +ℤ e
through a b a' b' c' d' x y e' f' e =
    let A = var 0 in let B = var 1 in let A' = var 2 in let B' = var 3 in let C' = var 4 in let D' = var 5 in let X = var 6 in let Y = var 7 in let E' = var 8 in let F' = var 9 in let E = var 10 in
    ring (a ∷ b ∷ a' ∷ b' ∷ c' ∷ d' ∷ x ∷ y ∷ e' ∷ f' ∷ e ∷ [])
    ((A ⊗ A' ⊕ B ⊗ C') ⊗ X ⊕ (A ⊗ B' ⊕ B ⊗ D') ⊗ Y ⊕ (A ⊗ E' ⊕ B ⊗ F' ⊕ E))
    (A ⊗ (A' ⊗ X ⊕ B' ⊗ Y ⊕ E') ⊕ B ⊗ (C' ⊗ X ⊕ D' ⊗ Y ⊕ F') ⊕ E) tt

pub linear_through : (a b a' b' c' d' x y : ℤ) → (a *ℤ a' +ℤ b *ℤ c') *ℤ x +ℤ (a *ℤ b' +ℤ b *ℤ d') *ℤ y ≡ a *ℤ (a' *ℤ x +ℤ b' *ℤ y) +ℤ b *ℤ (c' *ℤ x +ℤ d' *ℤ y)
linear_through a b a' b' c' d' x y =
    let A = var 0 in let B = var 1 in let A' = var 2 in let B' = var 3 in let C' = var 4 in let D' = var 5 in let X = var 6 in let Y = var 7 in
    ring (a ∷ b ∷ a' ∷ b' ∷ c' ∷ d' ∷ x ∷ y ∷ [])
    ((A ⊗ A' ⊕ B ⊗ C') ⊗ X ⊕ (A ⊗ B' ⊕ B ⊗ D') ⊗ Y)
    (A ⊗ (A' ⊗ X ⊕ B' ⊗ Y) ⊕ B ⊗ (C' ⊗ X ⊕ D' ⊗ Y)) tt

pub determinants : (a b c d a' b' c' d' : ℤ) → (a *ℤ a' +ℤ b *ℤ c') *ℤ (c *ℤ b' +ℤ d *ℤ d') -ℤ (a *ℤ b' +ℤ b *ℤ d') *ℤ (c *ℤ a' +ℤ d *ℤ c') ≡ (a *ℤ d -ℤ b *ℤ c) *ℤ (a' *ℤ d' -ℤ b' *ℤ c')
determinants a b c d a' b' c' d' =
    let A = var 0 in let B = var 1 in let C = var 2 in let D = var 3 in let A' = var 4 in let B' = var 5 in let C' = var 6 in let D' = var 7 in
    ring (a ∷ b ∷ c ∷ d ∷ a' ∷ b' ∷ c' ∷ d' ∷ [])
    ((A ⊗ A' ⊕ B ⊗ C') ⊗ (C ⊗ B' ⊕ D ⊗ D') ⊖ (A ⊗ B' ⊕ B ⊗ D') ⊗ (C ⊗ A' ⊕ D ⊗ C'))
    ((A ⊗ D ⊖ B ⊗ C) ⊗ (A' ⊗ D' ⊖ B' ⊗ C')) tt

pub regroup : (p q r : ℤ) → p *ℤ q *ℤ r ≡ q *ℤ (p *ℤ r)
regroup p q r = ring (p ∷ q ∷ r ∷ []) (var 0 ⊗ var 1 ⊗ var 2) (var 1 ⊗ (var 0 ⊗ var 2)) tt
