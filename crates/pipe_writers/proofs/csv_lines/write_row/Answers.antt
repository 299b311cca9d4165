use Rattle.std.proofs.Common.{◌≡◌, ◌+◌, ◌^◌, ◌<◌, Some, length, map, take, sym, rules}
use Rattle.std.specs.List.{slice_get}
use Rattle.std.proofs.lemmas.List.{length-map, length-take}
use Rattle.std.proofs.lemmas.Option.{slice_get_read}
use Rattle.pipe_columns.specs.Frame.{row_at}
use Rattle.pipe_csv.specs.Texts.{field_of}
use Rattle.pipe_csv.proofs.RowsLemmas.{length-column, row_at-more}
use Rattle.pipe_writers.proofs.csv_lines.write_row.Goals as goal

pub loop-column-preserved : goal.loop-column-preserved
loop-column-preserved c =
    let columns = c.columns-column-items.result.now in
    let height = length-column _ columns _ _ c.loop-column.invariant.height c.loop-column-test.true c.column-item.is in
    let value : slice_get c.column-item.result.values c.args.row ≡ Some c.index-values-row.result =
    slice_get_read c.column-item.result.values c.args.frame.now.height c.args.row c.index-values-row.result (sym height) c.requires (rw c.values.ensures.values at c.index-values-row.is) in
    let row = row_at-more columns _ c.args.row _ _ c.loop-column-test.true c.column-item.is value in
    let small : length (map field_of (row_at (take c.loop-column.column-index columns) c.args.row)) + 1 < 2 ^ 64 = search (rules, length-map, length-take) in
    record {
      written = λ text h. rw row (c.in_ok-write_value.ensures text _ small (c.loop-column.invariant.written text h));
      same = c.loop-column.invariant.same;
      height = c.loop-column.invariant.height;
    }
