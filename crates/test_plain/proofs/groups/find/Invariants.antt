use Rattle.std.proofs.Common.{◌≤◌, ◌-◌, length, map, take, drop}
use Rattle.pipe_inputs.specs.ChunkRows.{row_at}
use Rattle.test_plain.specs.Running.{AllAbove, AllBelow, group_seen}
use Rattle.test_plain.proofs.groups.find.Given as goal

-- the groups before low are below the row's key, and those from high on are above it
abbrev pub invariant-loop-low : goal.invariant-loop-low
invariant-loop-low l = record {
  ordered : l.low ≤ l.high;
  within : l.high ≤ length l.table;
  below : AllBelow (row_at l.rows l.row).key (take l.low (map group_seen l.table));
  above : AllAbove (row_at l.rows l.row).key (drop l.high (map group_seen l.table));
}

abbrev pub decreases-loop-low : goal.decreases-loop-low
decreases-loop-low l = l.high - l.low
