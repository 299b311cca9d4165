use Rattle.std.proofs.Common.{◌≡◌}
use Rattle.pipe_scan.specs.NextRecord.{next_at}
use Rattle.pipe_scan.proofs.record_places.record_start.Given as goal

-- only ends of lines lie before the place
abbrev pub invariant-loop-i : goal.invariant-loop-i
invariant-loop-i l = next_at l.text l.at ≡ next_at l.text l.i
