-- What a cell shows is an ink that a cell may have.
use Rattle.std.proofs.Common.{◌≡◌, ℕ, ◌≤◌, Bool, true, false, Ok, arith}
use Rattle.std.proofs.lemmas.Bool.Decides.{nat_tests}
use Rattle.plane.specs.declared.cell.Cell.{Cell}
use Rattle.plane.specs.Cells.{inside}
use Rattle.plane.specs.Meaning.{Meaning}
use Rattle.canvas.specs.Inks.{counterpart, top_ink}
use Rattle.canvas.specs.Board.{Board, BoardLaws}
use Rattle.views.specs.Tints.{all_odd, tinted}
use Rattle.views.specs.Shows.{shown, shown_if, shown_ink}

pub counterpart-small : (ink : ℕ) → ink ≤ top_ink → counterpart ink ≤ top_ink
counterpart-small ink h = grind (arith, nat_tests)

pub tinted-small : (b : Bool) (ink : ℕ) → ink ≤ top_ink → tinted b ink ≤ top_ink
tinted-small true ink h = counterpart-small ink h
tinted-small false ink h = h

pub shown-small : (m : Meaning) (b : Board) (p : Cell) → BoardLaws b → shown_ink m b p ≤ top_ink
shown-small m b p laws = tinted-small (all_odd (m.kinds p)) (b.inks (m.home p)) (laws.small (m.home p))

told_ink : (t : Bool) (ink r : ℕ) → Ok r ≡ shown_if t ink → r ≡ ink
told_ink true ink r e = cc
told_ink false ink r e = cc

pub shown_ok : (m : Meaning) (b : Board) (p : Cell) (r : ℕ) → Ok r ≡ shown m b p → r ≡ shown_ink m b p
shown_ok m b p r e = told_ink (inside m.span p) (shown_ink m b p) r e
