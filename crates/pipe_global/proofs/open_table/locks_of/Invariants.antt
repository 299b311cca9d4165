use Rattle.std.proofs.Common.{◌≡◌, ◌+◌, ◌≤◌, length, map, vec_capacity, vec_len}
use Rattle.std.specs.List.{All}
use Rattle.std.specs.Vec.Iter.{into_iter_items}
use Rattle.pipe_global.specs.Opening.{AreStoresFrom, IsEmptyPlace}
use Rattle.pipe_global.proofs.open_table.locks_of.Given as goal

-- as many places and parts are left as stores, which are those of the run from the next one on
abbrev pub invariant-loop-store : goal.invariant-loop-store
invariant-loop-store g l =
    (goal.iterator-loop-store g).can_next l.store-iterator
    × (goal.iterator-loop-store g).is_finite l.store-iterator
    × (l.events.parts ≡ length (into_iter_items l.store-iterator))
    × (l.events.amount ≡ 0)
    × (l.refusals.parts ≡ length (into_iter_items l.store-iterator))
    × (l.refusals.amount ≡ 0)
    × (vec_len l.locks + length (into_iter_items l.store-iterator) ≡ vec_len l.fn.stores)
    × (vec_len l.fn.stores ≤ vec_capacity l.locks)
    × (vec_len l.places ≡ length (into_iter_items l.store-iterator))
    × All (IsEmptyPlace g.R.Naming.run.query g.R.Naming.run.limits.workers) l.places.items
    × AreStoresFrom g.R.Naming.run (vec_len l.locks)
    (map (λ s. record { held = g.S.SpillStore.held s; told = g.S.SpillStore.told s; faults = g.S.SpillStore.faults s; sure = g.S.SpillStore.sure s; path = g.S.SpillStore.path s }) (into_iter_items l.store-iterator))
