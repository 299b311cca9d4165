use Rattle.std.proofs.Common.{◌≡◌, ◌≤◌, length, map, vec_len, vec_capacity}
use Rattle.pipe_tables.specs.Buffers.{AreBuffers, rows_left}
use Rattle.pipe_tables.proofs.RestFacts.{emptied_to, rests_to}
use Rattle.pipe_tables.proofs.spill_partitions.SpillPartitions.take_rests.Given as goal

abbrev pub invariant-loop-partition : goal.invariant-loop-partition
invariant-loop-partition l = record {
  end : l.partition-end ≡ length l.fn.self.rows;
  size : l.self.size ≡ l.fn.self.size;
  count : length l.self.rows ≡ length l.fn.self.rows;
  rows : l.self.rows ≡ emptied_to l.partition l.fn.self.rows;
  list : map rows_left l.list.items ≡ rests_to l.partition l.fn.self.rows;
  room : vec_len l.list ≤ l.partition;
  most : length l.fn.self.rows ≤ vec_capacity l.list;
  buffers : AreBuffers l.self;
}
