use Rattle.std.proofs.Common.{◌-◌, ◌≤◌}
use Rattle.pipe_sinks.specs.KeyCuts.{AreCut}
use Rattle.pipe_sinks.specs.Alike.{HoldAlike}
use Rattle.pipe_sinks.proofs.key_runs.cover_runs.Given as goal

-- the rows so far are cut, and the table holds the same
abbrev pub invariant-loop-row : goal.invariant-loop-row
invariant-loop-row l = record {
  within : l.row ≤ l.chunk.frame.height;
  alike : HoldAlike l.fn.table l.table;
  cut : AreCut l.table l.rows 0 l.runs.items l.row;
}

abbrev pub decreases-loop-row : goal.decreases-loop-row
decreases-loop-row l = l.height - l.row
