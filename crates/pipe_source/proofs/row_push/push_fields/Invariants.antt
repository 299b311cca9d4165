use Rattle.std.proofs.Common.{◌≡◌, List, Ok, length, take, vec_len}
use Rattle.pipe_columns.specs.declared.any_value.AnyValue.{AnyValue}
use Rattle.pipe_csv.specs.Columns.{with_row}
use Rattle.pipe_csv.specs.CsvRows.{read_row}
use Rattle.pipe_scan.specs.Records.{cut}
use Rattle.narrow_columns.specs.Wanted.{chosen}
use Rattle.pipe_source.proofs.PlacedFields.{values_at}
use Rattle.pipe_source.proofs.row_push.push_fields.Given as goal

-- the values at the first places stand at the ends of the columns
abbrev pub invariant-loop-i : goal.invariant-loop-i
invariant-loop-i l = record {
  columns : (values : List AnyValue) → read_row 1 l.row l.fields (cut l.text l.start l.ends) ≡ Ok values → l.columns.items ≡ with_row (take l.i (values_at values l.places)) l.initial.columns.items;
  width : vec_len l.columns ≡ length (chosen l.wanted l.fields);
}
