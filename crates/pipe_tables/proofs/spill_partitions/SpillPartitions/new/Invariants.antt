use Rattle.std.proofs.Common.{◌≡◌}
use Rattle.pipe_tables.specs.BufferLayout.{rows_of}
use Rattle.pipe_tables.specs.Buffers.{no_rows}
use Rattle.pipe_tables.proofs.spill_partitions.SpillPartitions.new.Given as goal

abbrev pub invariant-loop : goal.invariant-loop
invariant-loop l = rows_of l.buffers.items ≡ no_rows l.counter
