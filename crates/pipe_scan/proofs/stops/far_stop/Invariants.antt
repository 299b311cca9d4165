use Rattle.std.proofs.Common.{◌-◌, ◌≤◌, length}
use Rattle.pipe_scan.specs.NextStop.{HasNone}
use Rattle.pipe_scan.specs.Stops.{AreMarked, is_stop}
use Rattle.pipe_scan.proofs.stops.far_stop.Given as goal

-- no stop lies before the cursor
abbrev pub invariant-loop-stops : goal.invariant-loop-stops
invariant-loop-stops l = record {
  marked : AreMarked l.text l.stops;
  low : l.initial.stops.cursor ≤ l.stops.cursor;
  before : HasNone is_stop l.text l.initial.stops.cursor l.stops.cursor;
}

-- each turn leaves less of the text
abbrev pub decreases-loop-stops : goal.decreases-loop-stops
decreases-loop-stops l = length l.text - l.stops.cursor
