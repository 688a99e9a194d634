-- Whole combinations of two vectors: sums, multiples, and the rows that they reach.
use Rattle.std.specs.Prelude.{◌≡◌, [], ◌∷◌, ℤ, pos, ◌+ℤ◌, ◌-ℤ◌, ◌*ℤ◌}
use Rattle.ints.proofs.Ring.{var, lit, neg, ◌⊕◌, ◌⊖◌, ◌⊗◌, ring, ring_by, hyp}
use Rattle.lattice.specs.declared.vectors.Vectors.{Vectors}
use Rattle.lattice.specs.Lattice.{Combination}

-- i a + j b less k times i' a + j' b
part : (i j k i' j' a b z z' : ℤ) → z ≡ i *ℤ a +ℤ j *ℤ b → z' ≡ i' *ℤ a +ℤ j' *ℤ b → z -ℤ k *ℤ z' ≡ (i -ℤ k *ℤ i') *ℤ a +ℤ (j -ℤ k *ℤ j') *ℤ b
part i j k i' j' a b z z' e e' =
    let I = var 0 in let J = var 1 in let K = var 2 in let I' = var 3 in let J' = var 4 in let A = var 5 in let B = var 6 in let Z = var 7 in let Z' = var 8 in
    ring_by (i ∷ j ∷ k ∷ i' ∷ j' ∷ a ∷ b ∷ z ∷ z' ∷ [])
    (hyp (lit (pos 1)) Z (I ⊗ A ⊕ J ⊗ B) e ∷ hyp (neg K) Z' (I' ⊗ A ⊕ J' ⊗ B) e' ∷ [])
    (Z ⊖ K ⊗ Z') ((I ⊖ K ⊗ I') ⊗ A ⊕ (J ⊖ K ⊗ J') ⊗ B) tt

-- a combination less k times another
pub less : (v : Vectors) (k x y x' y' : ℤ) → Combination v x y → Combination v x' y' → Combination v (x -ℤ k *ℤ x') (y -ℤ k *ℤ y')
less v k x y x' y' c c' = (
  c.0 -ℤ k *ℤ c'.0,
  c.1 -ℤ k *ℤ c'.1,
  part c.0 c.1 k c'.0 c'.1 v.ax v.bx x x' c.2 c'.2,
  part c.0 c.1 k c'.0 c'.1 v.ay v.by y y' c.3 c'.3,
)

nothing : (a b : ℤ) → pos 0 ≡ pos 0 *ℤ a +ℤ pos 0 *ℤ b
nothing a b = ring (a ∷ b ∷ []) (lit (pos 0)) (lit (pos 0) ⊗ var 0 ⊕ lit (pos 0) ⊗ var 1) tt

pub none : (v : Vectors) → Combination v (pos 0) (pos 0)
none v = (pos 0, pos 0, nothing v.ax v.bx, nothing v.ay v.by)

both : (i j k l a b z z' : ℤ) (i' j' : ℤ) → z ≡ i *ℤ a +ℤ j *ℤ b → z' ≡ i' *ℤ a +ℤ j' *ℤ b → k *ℤ z +ℤ l *ℤ z' ≡ (k *ℤ i +ℤ l *ℤ i') *ℤ a +ℤ (k *ℤ j +ℤ l *ℤ j') *ℤ b
both i j k l a b z z' i' j' e e' =
    let I = var 0 in let J = var 1 in let K = var 2 in let L = var 3 in let A = var 4 in let B = var 5 in let Z = var 6 in let Z' = var 7 in let I' = var 8 in let J' = var 9 in
    ring_by (i ∷ j ∷ k ∷ l ∷ a ∷ b ∷ z ∷ z' ∷ i' ∷ j' ∷ [])
    (hyp K Z (I ⊗ A ⊕ J ⊗ B) e ∷ hyp L Z' (I' ⊗ A ⊕ J' ⊗ B) e' ∷ [])
    (K ⊗ Z ⊕ L ⊗ Z') ((K ⊗ I ⊕ L ⊗ I') ⊗ A ⊕ (K ⊗ J ⊕ L ⊗ J') ⊗ B) tt

-- k times a combination plus l times another
pub mixed : (v : Vectors) (k l x y x' y' : ℤ) → Combination v x y → Combination v x' y' → Combination v (k *ℤ x +ℤ l *ℤ x') (k *ℤ y +ℤ l *ℤ y')
mixed v k l x y x' y' c c' = (
  k *ℤ c.0 +ℤ l *ℤ c'.0,
  k *ℤ c.1 +ℤ l *ℤ c'.1,
  both c.0 c.1 k l v.ax v.bx x x' c'.0 c'.1 c.2 c'.2,
  both c.0 c.1 k l v.ay v.by y y' c'.0 c'.1 c.3 c'.3,
)
