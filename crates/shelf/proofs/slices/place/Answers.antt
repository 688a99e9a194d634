use Rattle.std.proofs.Common.{rules}
use Rattle.std.proofs.lemmas.List.Sorted.{IsPartitionPoint-from_clause}
use Rattle.shelf.proofs.Ranks.{partitioned, point_rank}
use Rattle.shelf.proofs.slices.place.Goals as goal

pub returns-clause-is : goal.returns-clause-is
returns-clause-is g c = λ s.
    let keys = g.R.Record.keys in
    point_rank keys c.args.key c.args.records.now c.partition_point.result c.partition_point.ensures.bound
    (IsPartitionPoint-from_clause (λ r. keys.before (keys.key r) c.args.key) c.args.records.now c.partition_point.result c.partition_point.ensures.partitioned
    (partitioned keys g.met.R.Record.total c.args.key c.args.records.now s) (λ a r f k. search rules))
