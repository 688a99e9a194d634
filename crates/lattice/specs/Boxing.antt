-- The home is the one cell of its class in the box.
use Rattle.std.specs.Prelude.{◌≡◌, ◌≤◌, [], ◌∷◌, ℤ, pos, negsuc, ◌+ℤ◌, ◌-ℤ◌, ◌*ℤ◌, neg_ℤ, refl}
use Rattle.std.proofs.Common.{sym, ap, ◌∙◌, arith}
use Rattle.ints.specs.Floor.{floor_mod, floor_div}
use Rattle.ints.proofs.Ring.{var, lit, neg, ◌⊕◌, ◌⊖◌, ◌⊗◌, ring, ring_by, hyp}
use Rattle.ints.proofs.Floor.{floor_lt, floor_eq, floor_is}
use Rattle.plane.specs.declared.cell.Cell.{Cell}
use Rattle.plane.specs.Operation.{Operation, carry, translation}
use Rattle.plane.specs.Laws.{Carried}
use Rattle.plane.proofs.Algebra.{same-cell}
use Rattle.lattice.specs.declared.vectors.Vectors.{Vectors}
use Rattle.lattice.specs.declared.reduced.Reduced.{Reduced}
use Rattle.lattice.specs.Lattice.{Combination, lattice}
use Rattle.lattice.specs.Reduction.{Reduces}
use Rattle.lattice.specs.Oblique.{InBox, boxed}
use Rattle.lattice.specs.Theorems.{OneInBox, HomesInBox}
use Rattle.lattice.specs.Reducing.{into_basis, from_basis}

-- ---- a translation carries a cell
x_lands : (x y h : ℤ) → pos 1 *ℤ x +ℤ pos 0 *ℤ y +ℤ (h -ℤ x) ≡ h
x_lands x y h = ring (x ∷ y ∷ h ∷ []) (lit (pos 1) ⊗ var 0 ⊕ lit (pos 0) ⊗ var 1 ⊕ (var 2 ⊖ var 0)) (var 2) tt

y_lands : (x y h : ℤ) → pos 0 *ℤ x +ℤ pos 1 *ℤ y +ℤ (h -ℤ y) ≡ h
y_lands x y h = ring (x ∷ y ∷ h ∷ []) (lit (pos 0) ⊗ var 0 ⊕ lit (pos 1) ⊗ var 1 ⊕ (var 2 ⊖ var 1)) (var 2) tt

-- a cell goes to every other whose distance is of the lattice
pub carried_by : (v : Vectors) (p q : Cell) → Combination v (q.x -ℤ p.x) (q.y -ℤ p.y) → Carried (lattice v) p q
carried_by v p q c =
    (translation (q.x -ℤ p.x) (q.y -ℤ p.y), (q.x -ℤ p.x, q.y -ℤ p.y, c, refl), same-cell (x_lands p.x p.y q.x) (y_lands p.x p.y q.y))

-- ---- the columns and rows of the home
x_moves : (x k b f l p : ℤ) → x -ℤ k *ℤ b ≡ f +ℤ l *ℤ p → f -ℤ x ≡ neg_ℤ l *ℤ p +ℤ neg_ℤ k *ℤ b
x_moves x k b f l p e =
    ring_by (x ∷ k ∷ b ∷ f ∷ l ∷ p ∷ []) (hyp (lit (negsuc 0)) (var 0 ⊖ var 1 ⊗ var 2) (var 3 ⊕ var 4 ⊗ var 5) e ∷ []) (var 3 ⊖ var 0) (neg (var 4) ⊗ var 5 ⊕ neg (var 1) ⊗ var 2) tt

y_moves : (y k d f l : ℤ) → y ≡ f +ℤ k *ℤ d → f -ℤ y ≡ neg_ℤ l *ℤ pos 0 +ℤ neg_ℤ k *ℤ d
y_moves y k d f l e =
    ring_by (y ∷ k ∷ d ∷ f ∷ l ∷ []) (hyp (lit (negsuc 0)) (var 0) (var 3 ⊕ var 1 ⊗ var 2) e ∷ []) (var 3 ⊖ var 0) (neg (var 4) ⊗ lit (pos 0) ⊕ neg (var 1) ⊗ var 2) tt

-- ---- a cell of the box, from the cell that it is an image of
row_splits : (x y w i j d n : ℤ) → pos 0 *ℤ x +ℤ pos 1 *ℤ y +ℤ w ≡ n → w ≡ i *ℤ pos 0 +ℤ j *ℤ d → y ≡ n +ℤ neg_ℤ j *ℤ d
row_splits x y w i j d n e f =
    let X = var 0 in let Y = var 1 in let W = var 2 in let I = var 3 in let J = var 4 in let D = var 5 in let N = var 6 in
    ring_by (x ∷ y ∷ w ∷ i ∷ j ∷ d ∷ n ∷ []) (hyp (lit (pos 1)) (lit (pos 0) ⊗ X ⊕ lit (pos 1) ⊗ Y ⊕ W) N e ∷ hyp (lit (negsuc 0)) W (I ⊗ lit (pos 0) ⊕ J ⊗ D) f ∷ []) Y (N ⊕ neg J ⊗ D) tt

column_splits : (x y u i j b p m : ℤ) → pos 1 *ℤ x +ℤ pos 0 *ℤ y +ℤ u ≡ m → u ≡ i *ℤ p +ℤ j *ℤ b → x -ℤ neg_ℤ j *ℤ b ≡ m +ℤ neg_ℤ i *ℤ p
column_splits x y u i j b p m e f =
    let X = var 0 in let Y = var 1 in let U = var 2 in let I = var 3 in let J = var 4 in let B = var 5 in let P = var 6 in let M = var 7 in
    ring_by (x ∷ y ∷ u ∷ i ∷ j ∷ b ∷ p ∷ m ∷ []) (hyp (lit (pos 1)) (lit (pos 1) ⊗ X ⊕ lit (pos 0) ⊗ Y ⊕ U) M e ∷ hyp (lit (negsuc 0)) U (I ⊗ P ⊕ J ⊗ B) f ∷ []) (X ⊖ neg J ⊗ B) (M ⊕ neg I ⊗ P) tt

module _ (v : Vectors) (t : Reduced) (r : Reduces v t) (p : Cell) where
  wide : 1 ≤ t.p
  wide = omega (arith, r.below)

  pub home_distance : Combination v ((boxed t p).x -ℤ p.x) ((boxed t p).y -ℤ p.y)
  home_distance =
      let k : ℤ = floor_div p.y t.d in
      let z : ℤ = p.x -ℤ k *ℤ pos t.b in
      let l : ℤ = floor_div z t.p in
      from_basis v t r ((boxed t p).x -ℤ p.x) ((boxed t p).y -ℤ p.y) (
        neg_ℤ l,
        neg_ℤ k,
        x_moves p.x k (pos t.b) (boxed t p).x l (pos t.p) (floor_eq z t.p wide),
        y_moves p.y k (pos t.d) (boxed t p).y l (floor_eq p.y t.d r.height),
      )

  pub in_box : InBox t (boxed t p)
  in_box =
      let z : ℤ = p.x -ℤ floor_div p.y t.d *ℤ pos t.b in
      record { column = (floor_mod z t.p, refl, floor_lt z t.p wide); row = (floor_mod p.y t.d, refl, floor_lt p.y t.d r.height) }

  pub only : (q : Cell) → Carried (lattice v) p q → InBox t q → q ≡ boxed t p
  only q c box =
      let g = c.1 in
      let lands : carry (translation g.0 g.1) p ≡ q = ap (λ (h : Operation). carry h p) (sym g.3) ∙ c.2 in
      let m = box.column in
      let n = box.row in
      let k = into_basis v t r g.0 g.1 g.2 in
      let ey : pos 0 *ℤ p.x +ℤ pos 1 *ℤ p.y +ℤ g.1 ≡ pos n.0 = ap (λ (o : Cell). o.y) lands ∙ n.1 in
      let ex : pos 1 *ℤ p.x +ℤ pos 0 *ℤ p.y +ℤ g.0 ≡ pos m.0 = ap (λ (o : Cell). o.x) lands ∙ m.1 in
      let y = floor_is p.y t.d n.0 (neg_ℤ k.1) (record { below = n.2; is = row_splits p.x p.y g.1 k.0 k.1 (pos t.d) (pos n.0) ey k.3 }) in
      let x = floor_is (p.x -ℤ neg_ℤ k.1 *ℤ pos t.b) t.p m.0 (neg_ℤ k.0) (record { below = m.2; is = column_splits p.x p.y g.0 k.0 k.1 (pos t.b) (pos t.p) (pos m.0) ex k.2 }) in
      same-cell
      (m.1 ∙ sym (ap pos (ap (λ (z : ℤ). floor_mod (p.x -ℤ z *ℤ pos t.b) t.p) y.1 ∙ x.0)))
      (n.1 ∙ sym (ap pos y.0))

  one_in_box : OneInBox v t p
  one_in_box = record { image = carried_by v p (boxed t p) home_distance; inside = in_box; only = only }

pub homes_in_box : HomesInBox
homes_in_box v t r p = one_in_box v t r p
