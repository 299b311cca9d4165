use Rattle.std.proofs.Common.{◌≡◌, [], vec_len}
use Rattle.std.specs.List.{All}
use Rattle.pipe_group_by.proofs.typed_begin.unused_sinks.Given as goal

-- so many sinks, none of which took a chunk
abbrev pub invariant-loop-worker : goal.invariant-loop-worker
invariant-loop-worker l = (vec_len l.sinks ≡ l._worker) × All (λ s. s ≡ record { query = l.fn.query; partitions = l.fn.partitions; taken = [] }) l.sinks.items
