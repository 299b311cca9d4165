use Rattle.std.proofs.Common.{length, ◌-◌, ◌≤◌}
use Rattle.pipe_source.specs.PieceRows.{AreBounds}
use Rattle.pipe_source.proofs.piece_check.piece_bounds.Given as goal

-- the text is cut so far
abbrev pub invariant-loop-low : goal.invariant-loop-low
invariant-loop-low l = record {
  within : l.low ≤ length l.text;
  cut : AreBounds l.text l.begin l.low l.bounds.items;
}

abbrev pub decreases-loop-low : goal.decreases-loop-low
decreases-loop-low l = length l.text - l.low
