-- A window whose rectangle, palette and output pass.
use Rattle.std.proofs.Common.{◌≡◌, ℕ, ◌≤◌, Bool, true, false, cond, not, ◌||◌, eqb, ltb, nat_abs, Some, None, Option, refl, ◌∙◌}
use Rattle.std.proofs.lemmas.Bool.{eq-eqb, le-ltb}
use Rattle.plane.specs.declared.rectangle.Rectangle.{Rectangle}
use Rattle.plane.specs.declared.rectangle.RectangleRefused.TheVariants.{Side as NoSide, OffSpan as BeyondSpan}
use Rattle.plane.specs.Cells.{AllWithin, all_inside}
use Rattle.plane.specs.Rectangles.{rectangle_refusal, window_cells, wrong_side}
use Rattle.plane.proofs.Rectangles.{all_within}
use Rattle.views.specs.declared.refusal.WindowRefused.{WindowRefused}
use Rattle.views.specs.declared.refusal.WindowRefused.TheVariants.{Side, OffSpan, Palette, Output}
use Rattle.views.specs.Windows.{picture_size, window_refusal}

passes : (p q : Bool) (rest : Option WindowRefused) → cond p (Some NoSide) (cond (not q) (Some BeyondSpan) None) ≡ None → (q ≡ true) × (cond p (Some Side) (cond (not q) (Some OffSpan) rest) ≡ rest)
passes true q rest e = cc
passes false true rest e = (refl, refl)
passes false false rest e = cc

module _ (span : ℕ) (r : Rectangle) (fits : rectangle_refusal span r ≡ None) where
  -- all its cells are within the span
  pub rectangle_within : AllWithin span (window_cells r.corner (nat_abs r.width) (nat_abs r.height))
  rectangle_within =
      let cells = window_cells r.corner (nat_abs r.width) (nat_abs r.height) in
      all_within span cells (passes (wrong_side r.width || wrong_side r.height) (all_inside span cells) None fits).0

  -- it is not refused
  pub window_passes : (palette output : ℕ) → palette ≡ 48 → picture_size (nat_abs r.width) (nat_abs r.height) ≤ output → window_refusal span r.corner r.width r.height palette output ≡ None
  window_passes palette output e h =
      let size = picture_size (nat_abs r.width) (nat_abs r.height) in
      let coloured = eq-eqb palette 48 e in
      let roomy = le-ltb output size h in
      (passes (wrong_side r.width || wrong_side r.height) (all_inside span (window_cells r.corner (nat_abs r.width) (nat_abs r.height))) (cond (not (eqb palette 48)) (Some Palette) (cond (ltb output size) (Some Output) None)) fits).1
      ∙ (λ i. cond (not (coloured i)) (Some Palette) (cond (roomy i) (Some Output) None))
