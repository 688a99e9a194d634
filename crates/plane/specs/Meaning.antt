-- What a symmetry means, and what its calls answer.
--     operations   the set of operations, as a predicate
--     span         a cell is answered for if neither coordinate exceeds it
--     hem          no coordinate of a home exceeds it
--     home         the one cell that stands for the class of a cell, which is all its images
--     kinds        the kinds of the operations that carry a cell to its home
use Rattle.std.specs.Prelude.{◌≡◌, ℕ, Bool, true, false, Ok, Err, Result}
use Rattle.plane.specs.declared.cell.Cell.{Cell}
use Rattle.plane.specs.declared.kinds.Kinds.{Kinds}
use Rattle.plane.specs.declared.fold.Extent.{Extent}
use Rattle.plane.specs.declared.fold.Fold.{Fold}
use Rattle.plane.specs.declared.fold.FoldRefused.{FoldRefused}
use Rattle.plane.specs.declared.fold.FoldRefused.TheVariants.{OffSpan}
use Rattle.plane.specs.Operation.{Operation}
use Rattle.plane.specs.Cells.{inside}

pub record Meaning : Type 1 where
  pub operations : Operation → Type 0
  pub span : ℕ
  pub hem : ℕ
  pub home : Cell → Cell
  pub kinds : Cell → Kinds

abbrev pub extent_of : Meaning → Extent
extent_of m = record { span = m.span; hem = m.hem }

-- the answer for a cell, if it is inside
abbrev pub answer : Bool → Fold → Result Fold FoldRefused
answer true f = Ok f
answer false f = Err OffSpan

-- what fold answers: a refusal exactly where the cell is off the span
abbrev pub folded : Meaning → Cell → Result Fold FoldRefused
folded m p = answer (inside m.span p) (record { home = m.home p; kinds = m.kinds p })

-- two meanings of one symmetry
pub record Alike (m n : Meaning) : Type 0 where
  pub span : m.span ≡ n.span
  pub hem : m.hem ≡ n.hem
  pub home : m.home ≡ n.home
  pub kinds : m.kinds ≡ n.kinds
  pub into : (g : Operation) → m.operations g → n.operations g
  pub back : (g : Operation) → n.operations g → m.operations g
