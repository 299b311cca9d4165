use Rattle.std.proofs.Common.{arith}
use Rattle.pipe_tables.proofs.BufferFacts.{rows_of-more, rows_of-same}
use Rattle.pipe_tables.proofs.spill_partitions.push_at.Goals as goal

pub returns-in-Ok-clause-ok : goal.returns-in-Ok-clause-ok
returns-in-Ok-clause-ok c = rows_of-more c.args.buffers.now.items c.args.partition c.index_mut-buffer.result.now c.push.new.self c.args.row (omega arith) c.index_mut-buffer.ensures.value c.in-Ok.ensures.items

pub returns-in-Err-clause-err : goal.returns-in-Err-clause-err
returns-in-Err-clause-err c = rows_of-same c.args.buffers.now.items c.args.partition c.index_mut-buffer.result.now c.push.new.self (omega arith) c.index_mut-buffer.ensures.value c.in-Err.ensures.items
