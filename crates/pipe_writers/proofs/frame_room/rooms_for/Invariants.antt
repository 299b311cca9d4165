use Rattle.std.proofs.Common.{◌≡◌, All, take, []}
use Rattle.pipe_columns.specs.Frame.{columns_from}
use Rattle.pipe_writers.specs.Room.{HasRoom, filled_columns}
use Rattle.pipe_writers.proofs.frame_room.rooms_for.Given as goal

-- there is a column of each field so far, and all have room
abbrev pub invariant-loop-field : goal.invariant-loop-field
invariant-loop-field l = record {
  columns : filled_columns l.columns.items ≡ columns_from 0 (take l.field-index l.fields) [];
  room : All (HasRoom l.most) l.columns.items;
}
