use Rattle.std.proofs.Common.{◌≡◌, ◌+◌, ◌≤◌, ◌++◌, length, map, vec_capacity, vec_len}
use Rattle.std.specs.Vec.Iter.{into_iter_items}
use Rattle.pipe_run.proofs.stores.stores_of.Given as goal

-- the stores of the partitions that are left complete those that were taken
abbrev pub invariant-loop-partition : goal.invariant-loop-partition
invariant-loop-partition g l =
    (goal.iterator-loop-partition g).can_next l.partition-iterator
    × (goal.iterator-loop-partition g).is_finite l.partition-iterator
    × (vec_len l.room + length (into_iter_items l.partition-iterator) ≡ vec_len l.fn.closed)
    × (vec_len l.fn.closed ≤ vec_capacity l.room)
    × (map (λ s. record { held = g.S.SpillStore.held s; told = g.S.SpillStore.told s; faults = g.S.SpillStore.faults s; sure = g.S.SpillStore.sure s; path = g.S.SpillStore.path s }) l.room.items
    ++ map (λ c. c.store) (into_iter_items l.partition-iterator) ≡ map (λ c. c.store) l.fn.closed.items)
