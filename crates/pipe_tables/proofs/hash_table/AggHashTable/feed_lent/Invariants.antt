-- All but the rows that are left were taken in, and these have the spots that are left.
use Rattle.std.proofs.Common.{◌≡◌, length}
use Rattle.pipe_groups.specs.Groups.{group_keys}
use Rattle.pipe_waiting.specs.Waiting.{HoldRows, left_rows}
use Rattle.pipe_tables.specs.Waits.{AreAt, HasTakenBut}
use Rattle.pipe_tables.proofs.hash_table.AggHashTable.feed_lent.Given as goal

abbrev pub decreases-loop-row : goal.decreases-loop-row
decreases-loop-row l = l.rows.count

abbrev pub invariant-loop-row : goal.invariant-loop-row
invariant-loop-row l = let types = l.fn.self.shape.input_types in record {
  held : HoldRows types l.rows.count l.rows.bytes;
  size : length l.values ≡ length l.fn.values;
  took : HasTakenBut l.fn.self l.self (left_rows types l.fn.rows) (left_rows types l.rows);
  at : AreAt (group_keys l.fn.self.groups) (left_rows types l.rows) l.spots;
}
