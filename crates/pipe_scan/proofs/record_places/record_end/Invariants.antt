use Rattle.std.proofs.Common.{ℕ, List}
use Rattle.pipe_scan.specs.Modes.{state_of}
use Rattle.pipe_scan.proofs.WholeRecords.{Goes}
use Rattle.pipe_scan.proofs.record_places.record_end.Given as goal

-- how the bytes so far read, whatever stands behind them
abbrev pub invariant-loop-i : goal.invariant-loop-i
invariant-loop-i l = record {
  fields : List (List ℕ);
  field : List ℕ;
  goes : Goes l.text l.at l.i (state_of l.mode) fields field;
}
