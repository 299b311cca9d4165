use Rattle.std.proofs.Common.{ℕ, ◌≡◌, ◌+◌, ◌<◌, ◌≤◌, length, slice_index_or, vec_capacity, vec_len}
use Rattle.std.specs.Vec.Iter.{into_iter_items}
use Rattle.pipe_global.specs.Closed.{all_events}
use Rattle.pipe_global.specs.Resuming.{IsTakenOver}
use Rattle.pipe_global.proofs.resume.locks_of.Given as goal

-- as many parts are left as partitions, which are taken over from the next number on
abbrev pub invariant-loop-partition : goal.invariant-loop-partition
invariant-loop-partition g l =
    (goal.iterator-loop-partition g).can_next l.partition-iterator
    × (goal.iterator-loop-partition g).is_finite l.partition-iterator
    × (l.events.parts ≡ length (into_iter_items l.partition-iterator))
    × (l.events.amount ≡ 0)
    × (l.refusals.parts ≡ length (into_iter_items l.partition-iterator))
    × (l.refusals.amount ≡ 0)
    × (vec_len l.locks + length (into_iter_items l.partition-iterator) ≡ vec_len l.fn.partitions)
    × (vec_len l.fn.partitions ≤ vec_capacity l.locks)
    × (l.book.total + all_events (into_iter_items l.partition-iterator)
    ≡ l.fn.book.total + all_events l.fn.partitions.items)
    × ((k : ℕ) (d : _) → k < length (into_iter_items l.partition-iterator)
    → IsTakenOver g.R.Naming.run (vec_len l.locks + k) (slice_index_or (into_iter_items l.partition-iterator) k d))
