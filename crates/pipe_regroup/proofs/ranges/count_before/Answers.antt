use Rattle.std.proofs.Common.{rules, arith, leb, leb-false, leb-true}
use Rattle.std.proofs.lemmas.List.Sorted.{IsPartitionedBy-leb, IsPartitionPoint-from_clause}
use Rattle.pipe_regroup.specs.declared.ranges.Range.{Range}
use Rattle.pipe_regroup.proofs.RangeOrder.{ends-rise}
use Rattle.pipe_regroup.proofs.ranges.count_before.Goals as goal

pub returns-clause-before : goal.returns-clause-before
returns-clause-before c =
    let parted = IsPartitionedBy-leb (λ (r : Range). r.end) c.args.ranges.now c.args.number (ends-rise 0 c.args.ranges.now c.requires) in
    let point = IsPartitionPoint-from_clause (λ (r : Range). leb r.end c.args.number) _ _ c.partition_point.ensures.partitioned parted (λ a r q k. search rules) in
    λ k d h there. leb-true _ _ (point.0 k d (omega arith) h)

pub returns-clause-behind : goal.returns-clause-behind
returns-clause-behind c =
    let parted = IsPartitionedBy-leb (λ (r : Range). r.end) c.args.ranges.now c.args.number (ends-rise 0 c.args.ranges.now c.requires) in
    let point = IsPartitionPoint-from_clause (λ (r : Range). leb r.end c.args.number) _ _ c.partition_point.ensures.partitioned parted (λ a r q k. search rules) in
    λ d there. leb-false _ _ (point.1 c.partition_point.result d (omega arith) there)
