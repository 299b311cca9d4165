use Rattle.test_plain.specs.Order.{ArePlaced}
use Rattle.test_plain.proofs.order.with_partitions.Given as goal

-- the groups so far with their partitions
abbrev pub invariant-loop-group : goal.invariant-loop-group
invariant-loop-group l = ArePlaced l.partitions l.types l.yielded l.placed.items
