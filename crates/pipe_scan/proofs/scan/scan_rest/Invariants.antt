use Rattle.std.proofs.Common.{◌≡◌, ◌-◌, ◌≤◌, ℕ, length, take}
use Rattle.pipe_scan.specs.InRecord.{Reads}
use Rattle.pipe_scan.specs.Stops.{AreMarked}
use Rattle.pipe_scan.proofs.scan.scan_rest.Given as goal

-- within a record, behind the fields that ended
abbrev pub invariant-fields : goal.invariant-fields
invariant-fields l = record {
  few : l.count ≤ length l.ends;
  room : length l.ends ≡ length l.initial.ends;
  marked : AreMarked l.text l.stops;
  low : l.initial.stops.cursor ≤ l.stops.cursor;
  reads : (at : ℕ) → Reads l.text at l.start (take l.before l.initial.ends) l.initial.stops.cursor → Reads l.text at l.start (take l.count l.ends) l.stops.cursor;
}

-- each turn leaves less of the text
abbrev pub decreases-fields : goal.decreases-fields
decreases-fields l = length l.text - l.stops.cursor
