use Rattle.std.proofs.Common.{ltb, rules}
use Rattle.std.proofs.lemmas.List.Sorted.{IsPartitionPoint-from_clause, IsPartitionedBy-ltb}
use Rattle.cmwq_chart.specs.Levels.{level_number}
use Rattle.cmwq_chart_levels.proofs.InOrder.{all_below, all_from}
use Rattle.cmwq_chart_levels.proofs.levels.count_below.Goals as goal

pub returns-clause-below : goal.returns-clause-below
returns-clause-below c =
    let parted = IsPartitionedBy-ltb (λ l. level_number l.place) c.args.levels.now c.args.number c.requires in
    let point =
    IsPartitionPoint-from_clause (λ l. ltb (level_number l.place) c.args.number) _ _
    c.partition_point.ensures.partitioned parted (λ a r q k. search rules) in
    all_below c.args.levels.now c.args.number c.partition_point.result c.partition_point.ensures.bound point.0

pub returns-clause-from : goal.returns-clause-from
returns-clause-from c =
    let parted = IsPartitionedBy-ltb (λ l. level_number l.place) c.args.levels.now c.args.number c.requires in
    let point =
    IsPartitionPoint-from_clause (λ l. ltb (level_number l.place) c.args.number) _ _
    c.partition_point.ensures.partitioned parted (λ a r q k. search rules) in
    all_from c.args.levels.now c.args.number c.partition_point.result c.partition_point.ensures.bound point.1
