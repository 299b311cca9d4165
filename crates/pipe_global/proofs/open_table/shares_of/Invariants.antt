use Rattle.std.proofs.Common.{◌≡◌, ◌+◌, ◌≤◌, vec_capacity, vec_len}
use Rattle.pipe_global.specs.Opening.{AreUnused}
use Rattle.pipe_global.proofs.open_table.shares_of.Given as goal

abbrev pub invariant-loop-worker : goal.invariant-loop-worker
invariant-loop-worker g l =
    (l.events.parts + l.worker ≡ l.workers)
    × (l.events.amount ≡ 0)
    × (l.faults.parts + l.worker ≡ l.workers)
    × (l.faults.amount ≡ 0)
    × (vec_len l.shares ≡ l.worker)
    × (l.workers ≤ vec_capacity l.shares)
    × AreUnused l.partitions l.shares.items
