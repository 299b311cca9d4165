-- A row comes to the buffer of its partition.
use Rattle.std.proofs.Common.{rules, ◌≡◌, length, subst, sym}
use Rattle.pipe_inputs.specs.ChunkRows.{row_at}
use Rattle.pipe_waiting.specs.Waiting.{lent_row}
use Rattle.pipe_local.specs.WaitingBuffers.{AreHeld, WaitingBuffers}
use Rattle.pipe_local.proofs.BufferBytes.{own-partition, put-ends, short-at}
use Rattle.pipe_local.proofs.waiting_partitions.WaitingPartitions.put.Goals as goal

pub put_into-requires-clause-short : goal.put_into-requires-clause-short
put_into-requires-clause-short c =
    let types = c.args.types.now in
    let b : WaitingBuffers = record { size = c.self.inside.buffer_size; waiting = c.self.inside.buffers.items } in
    let held : AreHeld types b = subst (AreHeld types) (sym c.self.view_is) c.requires.held in
    let count : c.len.result ≡ length b.waiting = search rules in
    let own = own-partition types b c.args.key.now c.len.result c.partition_of-partition.result held count (search rules) in
    let v = c.index_mut-buffer.result.now in
    short-at types b c.partition_of-partition.result v v held own.0 c.index_mut-buffer.ensures.value

pub returns : goal.returns
returns c =
    let types = c.args.types.now in
    let b : WaitingBuffers = record { size = c.self.inside.buffer_size; waiting = c.self.inside.buffers.items } in
    let held : AreHeld types b = subst (AreHeld types) (sym c.self.view_is) c.requires.held in
    let count : c.len.result ≡ length b.waiting = search rules in
    let own = own-partition types b c.args.key.now c.len.result c.partition_of-partition.result held count (search rules) in
    let r = lent_row c.args.key.now (row_at c.args.rows.now c.args.row).place c.args.rows.now c.args.row in
    rw (← c.self.view_is) (put-ends types b c.partition_of-partition.result c.index_mut-buffer.result.now c.put_into.new.buffer held own.0 c.index_mut-buffer.ensures.value
    r own.1 c.put_into.result c.put_into.ensures)
