use Rattle.std.proofs.Common.{◌≡◌, ◌≤◌, ℕ, [], length, take}
use Rattle.pipe_scan.specs.InRecord.{Reads}
use Rattle.pipe_scan.specs.Stops.{AreMarked}
use Rattle.pipe_scan.proofs.scan.scan_parts.Given as goal

-- the ends of the first fields are written down, and the next field begins at the cursor
abbrev pub invariant-loop-i : goal.invariant-loop-i
invariant-loop-i l = record {
  marked : AreMarked l.text l.stops;
  least : l.initial.stops.cursor ≤ l.stops.cursor;
  room : length l.ends ≡ length l.initial.ends;
  reads : (at : ℕ) (start : ℕ) → Reads l.text at start [] l.initial.stops.cursor → Reads l.text at start (take l.i l.ends) l.stops.cursor;
}
