-- The number of each refusal of a line.
use Rattle.std.specs.Prelude.{ℕ}
use Rattle.lines.specs.declared.refusal.LineRefused.{LineRefused}
use Rattle.lines.specs.declared.refusal.LineRefused.TheVariants.{TooLong}

abbrev pub line_number : LineRefused → ℕ
line_number TooLong = 6
