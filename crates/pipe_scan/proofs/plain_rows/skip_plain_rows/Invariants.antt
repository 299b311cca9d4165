use Rattle.std.proofs.Common.{◌≡◌, ◌≤◌, ◌-◌, true, IsTrue}
use Rattle.std.specs.List.{list_all}
use Rattle.pipe_scan.specs.Plain.{ArePlainRows}
use Rattle.pipe_scan.specs.Stops.{AreMarked}
use Rattle.pipe_scan.proofs.plain_rows.skip_plain_rows.Given as goal

-- so many rows were gone over
abbrev pub invariant-loop-count : goal.invariant-loop-count
invariant-loop-count l = record {
  marked : AreMarked l.text l.here;
  known : IsTrue l.at_once → list_all (λ number. number) l.numbers ≡ true;
  rows : ArePlainRows l.text l.numbers l.fn.stops.cursor l.here.cursor l.count;
  few : l.count ≤ l.most;
}

abbrev pub decreases-loop-count : goal.decreases-loop-count
decreases-loop-count l = l.most - l.count
