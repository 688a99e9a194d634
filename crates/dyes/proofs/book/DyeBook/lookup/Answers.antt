use Rattle.dyes.proofs.Lawful.{dye_laws}
use Rattle.dyes.proofs.book.DyeBook.lookup.Goals as goal

pub returns-in_err-name-clause-laws : goal.returns-in_err-name-clause-laws
returns-in_err-name-clause-laws c = dye_laws c.args.self.now

pub returns-clause-laws : goal.returns-clause-laws
returns-clause-laws c = dye_laws c.args.self.now
