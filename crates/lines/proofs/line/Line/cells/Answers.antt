use Rattle.std.proofs.Common.{arith}
use Rattle.lines.proofs.Cells.{line_length}
use Rattle.lines.proofs.line.Line.cells.Goals as goal

pub returns : goal.returns
returns c = omega (arith, line_length c.args.self.now.from c.args.self.now.to, c.args.self.now.whole)
