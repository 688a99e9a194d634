-- The cells of a rectangle are all within a bound exactly if the corner and the cell opposite to it are.
use Rattle.std.proofs.Common.{◌≡◌, ℕ, ◌-◌, ◌≤◌, Bool, true, false, ℤ, pos, ◌+ℤ◌, nat_abs, sym, refl, subst, arith}
use borrow.Author.Differences.{ints}
use Rattle.plane.specs.declared.cell.Cell.{Cell}
use Rattle.plane.specs.Cells.{AllWithin, Within, all_inside, inside}
use Rattle.plane.proofs.Algebra.{same-cell}
use Rattle.plane.proofs.Folding.{inside_within, outside}
use Rattle.plane.specs.Rectangles.{cell_from, window_cells}
use Rattle.plane.proofs.Rectangles.{all_within, window_at, window_within, within_all}

between : (x : ℤ) (i a n : ℕ) → i ≤ a → nat_abs x ≤ n → nat_abs (x +ℤ pos a) ≤ n → nat_abs (x +ℤ pos i) ≤ n
between x i a n h u v = omega (arith, ints)

inner : (n : ℕ) (corner : Cell) (a b i j : ℕ) → Within n corner → Within n (cell_from corner a b) → i ≤ a → j ≤ b → Within n (cell_from corner i j)
inner n corner a b i j near far h k = (between corner.x i a n h near.0 far.0, between corner.y j b n k near.1 far.1)

at_corner : (corner : Cell) → cell_from corner 0 0 ≡ corner
at_corner corner = same-cell (none corner.x) (none corner.y)
  where
    none : (x : ℤ) → x +ℤ pos 0 ≡ x
    none x = omega (arith, ints)

module _ (n : ℕ) (corner : Cell) (w h : ℕ) (wide : 1 ≤ w) (high : 1 ≤ h) where
  pub corners_within : Within n corner → Within n (cell_from corner (w - 1) (h - 1)) → AllWithin n (window_cells corner w h)
  corners_within a b = window_within n corner w h (λ i j k l. inner n corner (w - 1) (h - 1) i j a b (omega arith) (omega arith))

  -- the corner is one of the cells
  pub corner_near : AllWithin n (window_cells corner w h) → Within n corner
  corner_near a = subst (Within n) (at_corner corner) (window_at n corner w h a 0 0 (omega arith) (omega arith))

  refuted : (p : Cell) → (AllWithin n (window_cells corner w h) → Within n p) → inside n p ≡ false → (t : Bool) → all_inside n (window_cells corner w h) ≡ t → t ≡ false
  refuted p f e true k = absurd (outside n p e (f (all_within n (window_cells corner w h) k)))
  refuted p f e false k = refl

  -- one of the two is beyond the bound
  pub corner_out : inside n corner ≡ false → false ≡ all_inside n (window_cells corner w h)
  corner_out e = sym (refuted corner corner_near e (all_inside n (window_cells corner w h)) refl)

  pub far_out : inside n (cell_from corner (w - 1) (h - 1)) ≡ false → all_inside n (window_cells corner w h) ≡ false
  far_out e = refuted (cell_from corner (w - 1) (h - 1)) (λ a. window_at n corner w h a (w - 1) (h - 1) (omega arith) (omega arith)) e (all_inside n (window_cells corner w h)) refl

  -- neither
  pub corner_in : inside n corner ≡ true → inside n (cell_from corner (w - 1) (h - 1)) ≡ all_inside n (window_cells corner w h)
  corner_in e = go (inside n (cell_from corner (w - 1) (h - 1))) refl
    where
      go : (t : Bool) → inside n (cell_from corner (w - 1) (h - 1)) ≡ t → t ≡ all_inside n (window_cells corner w h)
      go true k = sym (within_all n (window_cells corner w h) (corners_within (inside_within n corner e) (inside_within n (cell_from corner (w - 1) (h - 1)) k)))
      go false k = sym (far_out k)
