use Rattle.std.proofs.Common.{ap, ◌∙◌}
use Rattle.std.specs.Ordering.{is_lt}
use Rattle.dyes.specs.Lexical.{lexical_is}
use Rattle.dyes.proofs.Spelling.{texts_ordered}
use Rattle.dyes.proofs.name.DyeName.precedes.Goals as goal

pub returns-clause-is : goal.returns-clause-is
returns-clause-is c = c.is_lt.ensures ∙ ap is_lt c.cmp.ensures ∙ lexical_is c.args.self.letters c.args.other.letters

pub returns-clause-texts : goal.returns-clause-texts
returns-clause-texts c = texts_ordered
