-- What laying cells answers, and the board it leaves.
--     mark    what a stroke lays at each of its cells: an ink
--     laid    cells are laid in order until one stops; those before it remain
use Rattle.std.specs.Prelude.{ℕ, suc, Bool, cond, List, [], ◌∷◌, Some, None, Ok, Err, Option, Result}
use Rattle.plane.specs.declared.cell.Cell.{Cell}
use Rattle.plane.specs.Meaning.{Meaning}
use Rattle.canvas.specs.declared.refusal.PutRefused.{PutRefused}
use Rattle.canvas.specs.Board.{Board, put_refusal, put_board}
use Rattle.sheet.specs.declared.mark.Mark.{Mark}
use Rattle.sheet.specs.declared.refusal.LayRefused.{LayRefused}
use Rattle.sheet.specs.declared.refusal.LayRefused.TheVariants.{Clash, Canvas}
use Rattle.views.specs.Tints.{all_odd, clash, tinted}

abbrev pub marked : ℕ → Mark
marked ink = record { ink = ink }

-- the ink that the home of a cell gets
abbrev pub home_ink : Meaning → Cell → Mark → ℕ
home_ink m p mark = tinted (all_odd (m.kinds p)) mark.ink

abbrev pub clashes : Meaning → Cell → Mark → Bool
clashes m p mark = clash (m.kinds p) mark.ink

abbrev pub by_canvas : Option PutRefused → Option LayRefused
by_canvas (Some why) = Some (Canvas why)
by_canvas None = None

-- why a cell is not laid, if it is not
abbrev pub lay_refusal : Meaning → Board → Cell → Mark → Option LayRefused
lay_refusal m b p mark = cond (clashes m p mark) (Some Clash) (by_canvas (put_refusal b (m.home p) (home_ink m p mark)))

abbrev pub lay_answer : Option LayRefused → Result (Unit {0}) LayRefused
lay_answer (Some why) = Err why
lay_answer None = Ok tt

-- the board after a cell is laid, or is not
abbrev pub lay_board : Meaning → Board → Cell → Mark → Board
lay_board m b p mark = cond (clashes m p mark) b (put_board b (m.home p) (home_ink m p mark))

-- what came of laying cells: how many were laid, what stopped them if anything did, and the board then
pub record Laid : Type 0 where
  pub count : ℕ
  pub stop : Option LayRefused
  pub board : Board

-- the first cell with its refusal, before what comes of the rest
abbrev pub lay_next : Option LayRefused → Board → Laid → Laid
lay_next (Some why) b rest = record { count = 0; stop = Some why; board = b }
lay_next None b rest = record { count = suc rest.count; stop = rest.stop; board = rest.board }

abbrev pub lay_all : Meaning → Board → Mark → List Cell → Laid
lay_all m b mark [] = record { count = 0; stop = None; board = b }
lay_all m b mark (p ∷ ps) = lay_next (lay_refusal m b p mark) b (lay_all m (lay_board m b p mark) mark ps)
