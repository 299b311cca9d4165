use Rattle.std.proofs.Common.{◌≡◌, List, length, drop, vec_len}
use Rattle.csv.specs.Records.{fields_of}
use Rattle.pipe_columns.specs.declared.any_value.AnyValue.{AnyValue}
use Rattle.pipe_csv.specs.Columns.{with_row}
use Rattle.pipe_csv.specs.CsvRows.{read_row}
use Rattle.narrow_columns.specs.Wanted.{chosen}
use Rattle.pipe_source.proofs.FieldsLeft.{FieldsLeft}
use Rattle.pipe_source.proofs.row_push.push_entry.Given as goal

-- the wanted values of the first fields stand at the ends of the columns
abbrev pub invariant-loop-i : goal.invariant-loop-i
invariant-loop-i l = record {
  done : List AnyValue;
  fields : FieldsLeft 1 l.row l.fields (read_row 1 l.row l.fields (fields_of l.entry)) l.i done (drop l.i (fields_of l.entry));
  columns : l.columns.items ≡ with_row (chosen l.wanted done) l.initial.columns.items;
  width : vec_len l.columns ≡ length (chosen l.wanted l.fields);
  place : l.place ≡ length (chosen l.wanted done);
}
