use Rattle.std.proofs.Common.{◌≡◌, length}
use Rattle.pipe_scan.specs.Skipped.{Skips}
use Rattle.pipe_scan.specs.Stops.{AreMarked}
use Rattle.pipe_scan.proofs.skip.skip_rows.Given as goal

-- so many records were gone over
abbrev pub invariant-loop-count : goal.invariant-loop-count
invariant-loop-count l = record {
  marked : AreMarked l.text l.stops;
  room : length l.ends ≡ length l.initial.ends;
  skips : Skips l.text l.initial.stops.cursor l.stops.cursor (length l.initial.ends) l.count;
}
