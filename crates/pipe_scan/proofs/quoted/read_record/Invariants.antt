use Rattle.std.proofs.Common.{◌++◌, ◌≡◌, ◌≤◌, [], drop}
use Rattle.csv.specs.Machine.{next_record}
use Rattle.csv.specs.Reading.{default_config}
use Rattle.csv.specs.Records.{fields_of, partial_of}
use Rattle.pipe_scan.specs.Modes.{state_of}
use Rattle.pipe_scan.specs.Records.{between}
use Rattle.pipe_scan.specs.NextRecord.{next_at}
use Rattle.pipe_scan.proofs.quoted.read_record.Given as goal

-- the read goes on from here, with bytes of the field at hand that are not copied yet
abbrev pub invariant-loop-i : goal.invariant-loop-i
invariant-loop-i l = record {
  behind : l.run ≤ l.i;
  whole : partial_of l.row ≡ [];
  reads : next_at l.text l.at ≡ next_record default_config (state_of l.mode) (fields_of l.row) (l.field.items ++ between l.text l.run l.i) (drop l.i l.text);
}
