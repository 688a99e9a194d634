-- The number of each refusal of a fold.
use Rattle.std.specs.Prelude.{ℕ}
use Rattle.plane.specs.declared.fold.FoldRefused.{FoldRefused}
use Rattle.plane.specs.declared.fold.FoldRefused.TheVariants.{OffSpan}

abbrev pub fold_number : FoldRefused → ℕ
fold_number OffSpan = 2
