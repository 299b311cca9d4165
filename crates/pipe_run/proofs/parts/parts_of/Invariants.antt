use Rattle.std.proofs.Common.{◌≡◌, ◌+◌, ◌<◌, ◌≤◌, ◌^◌, ◌++◌, length, map, vec_capacity, vec_len}
use Rattle.std.specs.List.{sum_by}
use Rattle.std.specs.Vec.Iter.{into_iter_items}
use Rattle.pipe_run.proofs.parts.parts_of.Given as goal

-- what the partitions that are left leave completes what was taken of the others
abbrev pub invariant-loop-partition : goal.invariant-loop-partition
invariant-loop-partition g l =
    (goal.iterator-loop-partition g).can_next l.partition-iterator
    × (goal.iterator-loop-partition g).is_finite l.partition-iterator
    × (vec_len l.journals + length (into_iter_items l.partition-iterator) ≡ vec_len l.fn.closed)
    × (vec_len l.fn.closed ≤ vec_capacity l.journals)
    × (vec_len l.stores + length (into_iter_items l.partition-iterator) ≡ vec_len l.fn.closed)
    × (vec_len l.fn.closed ≤ vec_capacity l.stores)
    × (l.journals.items ++ map (λ c. c.journal) (into_iter_items l.partition-iterator) ≡ map (λ c. c.journal) l.fn.closed.items)
    × (map (λ s. record { held = g.S.SpillStore.held s; told = g.S.SpillStore.told s; faults = g.S.SpillStore.faults s; sure = g.S.SpillStore.sure s; path = g.S.SpillStore.path s }) l.stores.items
    ++ map (λ c. c.store) (into_iter_items l.partition-iterator) ≡ map (λ c. c.store) l.fn.closed.items)
    × (l.arrived + sum_by (λ c. c.arrived) (into_iter_items l.partition-iterator) ≡ sum_by (λ c. c.arrived) l.fn.closed.items)
    × (sum_by (λ c. c.arrived) l.fn.closed.items < 2 ^ 64)
