use Rattle.std.proofs.Common.{◌≡◌, ◌+◌, ◌≤◌, length, vec_capacity, vec_len}
use Rattle.std.specs.Vec.Iter.{into_iter_items}
use Rattle.pipe_global.specs.Closed.{all_events, AreClosed, AreFailed}
use Rattle.pipe_global.proofs.close_table.close_all.Given as goal

-- those so far are closed, and there is room for the others
abbrev pub invariant-loop-lock : goal.invariant-loop-lock
invariant-loop-lock g l =
    (goal.iterator-loop-lock g).can_next l.lock-iterator
    × (goal.iterator-loop-lock g).is_finite l.lock-iterator
    × (l.events.parts + length (into_iter_items l.lock-iterator) ≡ vec_len l.fn.locks)
    × (l.refusals.parts + length (into_iter_items l.lock-iterator) ≡ vec_len l.fn.locks)
    × (vec_len l.closed + length (into_iter_items l.lock-iterator) ≡ vec_len l.fn.locks)
    × (vec_len l.fn.locks ≤ vec_capacity l.closed)
    × AreClosed g.R.Naming.run l.closed.items
    × AreFailed l.closed.items l.refusals.amount
    × (l.events.amount ≡ all_events l.closed.items)
