use Rattle.std.proofs.Common.{◌≡◌, ◌<◌, ◌≤◌, sym, ◌∙◌, arith, w64, SFits, to_z, of_z, rules}
use Rattle.std.proofs.lemmas.Int.{to_z-of_z}
use Rattle.plane.proofs.Algebra.{same-cell}
use Rattle.lines.specs.Lines.{reach, stands}
use Rattle.lines.proofs.Cells.{line_at, line_past}
use Rattle.lines.proofs.line.Line.cell.Goals as goal

pub returns-then-i-self : goal.returns-then-i-self
returns-then-i-self c =
    let line = c.args.self.now in
    let past : reach line.from line.to < c.args.i = omega (arith, line.whole) in
    sym (line_past line.from line.to c.args.i line.to past)

pub returns : goal.returns
returns c =
    let line = c.args.self.now in
    let i = c.args.i in
    let ux : SFits w64 line.from.x = search rules in
    let uy : SFits w64 line.from.y = search rules in
    let vx : SFits w64 line.to.x = search rules in
    let vy : SFits w64 line.to.y = search rules in
    let rx : SFits w64 c.stands-x.result = search rules in
    let ry : SFits w64 c.stands-y.result = search rules in
    let short : i ≤ reach line.from line.to = omega (arith, line.whole) in
    let x : to_z w64 (of_z w64 c.stands-x.result) ≡ stands (reach line.from line.to) line.from.x line.to.x i = let t = to_z-of_z w64 c.stands-x.result rx in let e = simp to_z-of_z at c.stands-x.ensures in cc line.whole in
    let y : to_z w64 (of_z w64 c.stands-y.result) ≡ stands (reach line.from line.to) line.from.y line.to.y i = let t = to_z-of_z w64 c.stands-y.result ry in let e = simp to_z-of_z at c.stands-y.ensures in cc line.whole in
    same-cell x y ∙ sym (line_at line.from line.to i line.to short)
