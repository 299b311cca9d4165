use Rattle.std.proofs.Common.{◌≡◌, drop, map, vec_len}
use Rattle.std.specs.Vec.Iter.{into_iter_items}
use Rattle.pipe_group_by.proofs.Dealt.{turns_to}
use Rattle.pipe_group_by.proofs.combined.combined.Given as goal

-- the sinks before were combined, and the others are left
abbrev pub invariant-loop-worker : goal.invariant-loop-worker
invariant-loop-worker l =
    (into_iter_items l.waiting ≡ drop l._worker l.fn.sinks.items)
    × (l.all ≡ record { query = l.fn.query; partitions = l.fn.partitions; taken = turns_to (vec_len l.fn.sinks) l._worker (map (λ c. c.value) l.fn.chunks) })
