-- What waits in a partition leaves.
use Rattle.std.proofs.Common.{◌<◌, length}
use Rattle.pipe_local.specs.WaitingBuffers.{WaitingBuffers}
use Rattle.pipe_local.proofs.BufferBytes.{rest-if, stays-if}
use Rattle.pipe_local.proofs.waiting_partitions.WaitingPartitions.rest.Goals as goal

pub returns-clause-given : goal.returns-clause-given
returns-clause-given c =
    let b : WaitingBuffers = record { size = c.self.inside.buffer_size; waiting = c.self.inside.buffers.items } in
    let there : c.args.partition < length b.waiting = rw (← c.self.view_is) at c.requires in
    rw (← c.self.view_is) (rest-if b c.args.partition c.index_mut.result.now c.take_rest.new.buffer there c.index_mut.ensures.value c.take_rest.result c.take_rest.ensures.left)

pub returns-clause-refused : goal.returns-clause-refused
returns-clause-refused c =
    let b : WaitingBuffers = record { size = c.self.inside.buffer_size; waiting = c.self.inside.buffers.items } in
    let there : c.args.partition < length b.waiting = rw (← c.self.view_is) at c.requires in
    rw (← c.self.view_is) (stays-if b c.args.partition c.index_mut.result.now c.take_rest.new.buffer there c.index_mut.ensures.value c.take_rest.result c.take_rest.ensures.refused)
