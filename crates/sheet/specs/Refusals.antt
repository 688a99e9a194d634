-- The number of each refusal of a sheet's calls. Those of a put pass up with their own.
use Rattle.std.specs.Prelude.{ℕ}
use Rattle.canvas.specs.Refusals.{put_number}
use Rattle.sheet.specs.declared.refusal.LayRefused.{LayRefused}
use Rattle.sheet.specs.declared.refusal.LayRefused.TheVariants.{Clash, Canvas}
use Rattle.sheet.specs.declared.refusal.StrokeRefused.{StrokeRefused}
use Rattle.sheet.specs.declared.refusal.StrokeRefused.TheVariants.{TooManyStrokes, Ink, OffSpan, TooLong, Stopped}

abbrev pub lay_number : LayRefused → ℕ
lay_number Clash = 3
lay_number (Canvas why) = put_number why

abbrev pub stroke_number : StrokeRefused → ℕ
stroke_number TooManyStrokes = 7
stroke_number Ink = 1
stroke_number OffSpan = 2
stroke_number TooLong = 6
stroke_number (Stopped why) = lay_number why
