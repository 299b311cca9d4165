use Rattle.std.proofs.Common.{◌≡◌, ◌-◌, ◌≤◌, length}
use Rattle.pipe_scan.specs.NextRecord.{next_at}
use Rattle.pipe_scan.specs.Stops.{AreMarked}
use Rattle.pipe_scan.proofs.scan.skip_ends.Given as goal

-- only ends of lines lie before the cursor
abbrev pub invariant-loop-stops : goal.invariant-loop-stops
invariant-loop-stops l = record {
  marked : AreMarked l.text l.stops;
  least : l.initial.stops.cursor ≤ l.stops.cursor;
  skipped : next_at l.text l.initial.stops.cursor ≡ next_at l.text l.stops.cursor;
}

-- each turn leaves less of the text
abbrev pub decreases-loop-stops : goal.decreases-loop-stops
decreases-loop-stops l = length l.text - l.stops.cursor
