use Rattle.std.proofs.Common.{◌≤◌}
use Rattle.pipe_scan.specs.Stops.{AreMarked}
use Rattle.pipe_scan.proofs.PlainFacts.{GoesOver}
use Rattle.pipe_scan.proofs.plain_row.skip_fields.Given as goal

-- the first fields were gone over, and the next one begins at the cursor
abbrev pub invariant-loop-i : goal.invariant-loop-i
invariant-loop-i l = record {
  marked : AreMarked l.text l.stops;
  low : l.fn.stops.cursor ≤ l.stops.cursor;
  goes : GoesOver l.text l.fn.stops.cursor l.initial.stops.cursor l.stops.cursor l.numbers l.i;
}
