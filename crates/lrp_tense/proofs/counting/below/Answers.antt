use Rattle.std.proofs.Common.{ltb, sym, arith, rules}
use Rattle.std.proofs.lemmas.List.Sorted.{IsPartitionPoint-from_clause, IsPartitionedBy-ltb}
use Rattle.lrp_tense.proofs.Positions.{count_point}
use Rattle.lrp_tense.proofs.counting.below.Goals as goal

pub returns : goal.returns
returns c =
    let here = c.args.here in
    let parted = IsPartitionedBy-ltb (λ x. x) _ here c.requires in
    let point = IsPartitionPoint-from_clause (λ x. ltb x here) _ _ c.partition_point.ensures.partitioned parted (λ a r q k. search rules) in
    sym (count_point (λ x. ltb x here) c.args.positions.now c.partition_point.result c.partition_point.ensures.bound (λ k lt. point.0 k 0 (omega arith) lt) (λ k le lt. point.1 k 0 le lt))
