use Rattle.std.proofs.Common.{◌≡◌, drop}
use Rattle.csv.specs.Records.{fields_of}
use Rattle.pipe_csv.specs.CsvRows.{is_header}
use Rattle.pipe_csv.proofs.header.is_header.Given as goal

-- the rest tells
abbrev pub invariant-loop-i : goal.invariant-loop-i
invariant-loop-i l = is_header l.fields (fields_of l.entry) ≡ is_header (drop l.i l.fields) (drop l.i (fields_of l.entry))
