use Rattle.std.proofs.Common.{◌≡◌, rules}
use Rattle.std.proofs.lemmas.Fn.{always_returns_same}
use Rattle.shelf.proofs.Ranks.{searched, standing}
use Rattle.shelf.proofs.slices.search.Goals as goal

pub returns-clause-is : goal.returns-clause-is
returns-clause-is g c =
    let keys = g.R.Record.keys in
    searched keys g.met.R.Record.total c.args.key c.args.records.now c.binary_search_by.result c.binary_search_by.ensures.bound
    (c.binary_search_by.ensures.position (λ r. standing keys (keys.key r) c.args.key)
    (always_returns_same _ (λ a r. r ≡ standing keys (keys.key a.0.now) c.args.key) _ (λ a r f k. search rules)))
