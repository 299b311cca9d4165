use Rattle.std.proofs.Common.{◌≡◌, List, drop, length, vec_len}
use Rattle.csv.specs.Records.{fields_of}
use Rattle.pipe_columns.specs.declared.any_value.AnyValue.{AnyValue}
use Rattle.pipe_csv.specs.Columns.{with_row}
use Rattle.pipe_csv.specs.CsvRows.{read_row}
use Rattle.pipe_source.specs.NamedRows.{fields_at}
use Rattle.pipe_source.proofs.FieldsLeft.{FieldsLeft}
use Rattle.pipe_source.proofs.named_push.push_named_record.Given as goal

-- the values of the first columns stand at their ends
abbrev pub invariant-loop-i : goal.invariant-loop-i
invariant-loop-i l = record {
  done : List AnyValue;
  fields : FieldsLeft 1 l.row l.columns (read_row 1 l.row l.columns (fields_at l.places (fields_of l.entry))) l.i done (drop l.i (fields_at l.places (fields_of l.entry)));
  fills : l.fills.items ≡ with_row done l.initial.fills.items;
  width : vec_len l.fills ≡ length l.columns;
}
