use Rattle.std.proofs.Common.{rules}
use Rattle.std.specs.Prelude.{nat_le}
use Rattle.std.proofs.lemmas.List.Sorted.{IsPartitionPoint-from_clause, IsPartitionedBy-leb}
use Rattle.worth_steps.proofs.Placing.{point_is, rising}
use Rattle.worth_steps.proofs.steps.halved.Goals as goal

pub returns-clause-place : goal.returns-clause-place
returns-clause-place c = λ up.
    let v = c.args.version.0 in
    let parted = IsPartitionedBy-leb (λ s. s.version.0) c.args.steps.now v (rising c.args.steps.now up) in
    let point = IsPartitionPoint-from_clause (λ s. nat_le s.version.0 v) _ _ c.partition_point.ensures.partitioned parted (λ a r q k. search rules) in
    point_is v c.args.steps.now c.partition_point.result c.partition_point.ensures.bound point
