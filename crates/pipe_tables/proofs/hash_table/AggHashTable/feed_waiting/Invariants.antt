-- All but the rows that are left were taken in, and these have the spots that are left.
use Rattle.std.proofs.Common.{◌≡◌, drop, length}
use Rattle.pipe_groups.specs.Groups.{group_keys}
use Rattle.pipe_tables.specs.Waits.{AreAt, HasTakenBut, rows_waiting}
use Rattle.pipe_tables.proofs.hash_table.AggHashTable.feed_waiting.Given as goal

abbrev pub invariant-loop-rows : goal.invariant-loop-rows
invariant-loop-rows l = let types = l.fn.self.shape.input_types in record {
  size : length l.values ≡ length l.fn.values;
  took : HasTakenBut l.fn.self l.self (rows_waiting types l.waiting) (rows_waiting types (drop l.rows-index l.waiting));
  at : AreAt (group_keys l.fn.self.groups) (rows_waiting types (drop l.rows-index l.waiting)) l.spots;
}
