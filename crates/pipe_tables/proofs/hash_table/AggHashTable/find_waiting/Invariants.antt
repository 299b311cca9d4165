-- The table holds the same, and the groups of the rows so far were found.
use Rattle.std.proofs.Common.{take}
use Rattle.pipe_groups.specs.Groups.{group_keys}
use Rattle.pipe_tables.specs.Waits.{AreAt, HoldsAs, rows_waiting}
use Rattle.pipe_tables.proofs.hash_table.AggHashTable.find_waiting.Given as goal

abbrev pub invariant-loop-rows : goal.invariant-loop-rows
invariant-loop-rows l = record {
  same : HoldsAs l.fn.self l.self;
  at : AreAt (group_keys l.self.groups) (rows_waiting l.fn.self.shape.input_types (take l.rows-index l.waiting)) l.spots.items;
}
