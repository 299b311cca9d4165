use Rattle.pipe_local.proofs.MadeBuffers.{AreNone}
use Rattle.pipe_local.proofs.waiting_partitions.WaitingPartitions.new.Given as goal

-- nothing waits in those that were made
abbrev pub invariant-loop : goal.invariant-loop
invariant-loop l = AreNone l.counter l.buffers.items
