use Rattle.std.proofs.Common.{◌≡◌, take, []}
use Rattle.pipe_columns.specs.Frame.{columns_from}
use Rattle.pipe_columns.proofs.data_frame.DataFrame.empty_with_schema.Given as goal

-- there is a column of each field so far
abbrev pub invariant-loop-field : goal.invariant-loop-field
invariant-loop-field l = l.columns.items ≡ columns_from 0 (take l.field-index l.fields) []
