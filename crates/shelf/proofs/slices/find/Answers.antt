use Rattle.shelf.proofs.Outcomes.{read_found}
use Rattle.shelf.proofs.slices.find.Goals as goal

pub returns : goal.returns
returns g c = λ s. read_found g.R.Record.keys c.args.records.now c.args.key c.in_ok-at.at c.index-records-at.result c.index-records-at.is c.search.result (c.in_ok-at.ensures.value) (c.search.ensures.is s)
