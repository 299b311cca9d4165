use Rattle.std.proofs.Common.{◌-◌, ◌≤◌, length}
use Rattle.pipe_scan.specs.Plain.{ArePlainRows}
use Rattle.pipe_scan.proofs.number_rows.skip_number_rows.Given as goal

-- so many rows were gone over, and the next one begins at the place
abbrev pub invariant-loop-count : goal.invariant-loop-count
invariant-loop-count l = record {
  rows : ArePlainRows l.text l.numbers l.at l.place l.count;
  few : l.count ≤ l.most;
  within : l.place ≤ length l.text;
}

-- each turn leaves less of the text
abbrev pub decreases-loop-count : goal.decreases-loop-count
decreases-loop-count l = length l.text - l.place
