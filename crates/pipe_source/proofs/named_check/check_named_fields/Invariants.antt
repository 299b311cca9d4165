use Rattle.std.proofs.Common.{List, drop}
use Rattle.pipe_columns.specs.declared.any_value.AnyValue.{AnyValue}
use Rattle.pipe_csv.specs.CsvRows.{read_row}
use Rattle.pipe_scan.specs.Records.{cut}
use Rattle.pipe_source.specs.NamedRows.{fields_at}
use Rattle.pipe_source.proofs.FieldsLeft.{FieldsLeft}
use Rattle.pipe_source.proofs.named_check.check_named_fields.Given as goal

-- the first columns read
abbrev pub invariant-loop-i : goal.invariant-loop-i
invariant-loop-i l =
    (done : List AnyValue)
    × FieldsLeft l.file l.row l.columns (read_row l.file l.row l.columns (fields_at l.places (cut l.text l.start l.ends))) l.i done (drop l.i (fields_at l.places (cut l.text l.start l.ends)))
