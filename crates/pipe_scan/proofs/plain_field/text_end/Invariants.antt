use Rattle.std.proofs.Common.{◌-◌, ◌≤◌, length}
use Rattle.pipe_scan.specs.NextStop.{HasNone}
use Rattle.pipe_scan.specs.PlainField.{is_mark}
use Rattle.pipe_scan.specs.Stops.{AreMarked}
use Rattle.pipe_scan.proofs.plain_field.text_end.Given as goal

-- no byte before the cursor ends the field
abbrev pub invariant-loop-stop : goal.invariant-loop-stop
invariant-loop-stop l = record {
  marked : AreMarked l.text l.stops;
  low : l.initial.stops.cursor ≤ l.stops.cursor;
  inner : HasNone is_mark l.text l.initial.stops.cursor l.stops.cursor;
}

-- each turn leaves less of the text
abbrev pub decreases-loop-stop : goal.decreases-loop-stop
decreases-loop-stop l = length l.text - l.stops.cursor
