-- The refusals of a window: those of its rectangle, and the number of each.
use Rattle.std.specs.Prelude.{ℕ}
use Rattle.plane.specs.declared.rectangle.RectangleRefused.{RectangleRefused}
use Rattle.plane.specs.declared.rectangle.RectangleRefused.TheVariants.{Side as NoSide, OffSpan as BeyondSpan}
use Rattle.views.specs.declared.refusal.WindowRefused.{WindowRefused}
use Rattle.views.specs.declared.refusal.WindowRefused.TheVariants.{Side, OffSpan, Palette, Output}

-- the refusal of a rectangle as that of a window
abbrev pub by_rectangle : RectangleRefused → WindowRefused
by_rectangle NoSide = Side
by_rectangle BeyondSpan = OffSpan

abbrev pub window_number : WindowRefused → ℕ
window_number Side = 8
window_number OffSpan = 2
window_number Palette = 10
window_number Output = 9
