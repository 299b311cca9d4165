use Rattle.std.proofs.Common.{◌≡◌, ◌-◌, List, Some, length, take, vec_len}
use Rattle.pipe_columns.specs.declared.any_value.AnyValue.{AnyValue}
use Rattle.pipe_csv.specs.Columns.{values_from}
use Rattle.pipe_csv.specs.CsvRows.{read_rows}
use Rattle.pipe_csv.proofs.HoldFacts.{RowsFit}
use Rattle.pipe_scan.specs.Records.{records_at}
use Rattle.pipe_scan.specs.Stops.{AreMarked}
use Rattle.pipe_source.specs.Layout.{laid}
use Rattle.pipe_source.specs.Quoted.{AreAhead}
use Rattle.pipe_source.proofs.RowsLeft.{RowsLeft}
use Rattle.pipe_source.proofs.named_push.push_named_rows.Given as goal

-- the values of the first rows stand in the columns, and the rest of the records behind them
abbrev pub invariant-loop-row : goal.invariant-loop-row
invariant-loop-row l = record {
  done : List (List AnyValue);
  rows : RowsLeft 1 l.columns (read_rows 1 1 l.columns (take l.count (laid (Some l.layout) (records_at l.text l.at)))) l.row done (take (l.count - l.row) (laid (Some l.layout) (records_at l.text l.stops.cursor)));
  marked : AreMarked l.text l.stops;
  ahead : AreAhead l.text l.quoted;
  room : length l.ends.items ≡ l.layout.count;
  fills : l.fills.items ≡ values_from 0 l.columns done;
  fit : RowsFit 0 l.columns done;
  width : vec_len l.fills ≡ length l.columns;
}
