use Rattle.std.proofs.Common.{◌≡◌, [], take}
use Rattle.pipe_columns.specs.Frame.{columns_from}
use Rattle.pipe_groups.specs.Columns.{columns_of_unfinished, HaveRoom}
use Rattle.pipe_groups.proofs.unfinished.opened.Given as goal

-- the columns of the fields so far
abbrev pub invariant-loop-field : goal.invariant-loop-field
invariant-loop-field l = record {
  columns : columns_of_unfinished l.columns.items ≡ columns_from 0 (take l.field-index l.fields) [];
  room : HaveRoom l.height l.columns.items;
}
