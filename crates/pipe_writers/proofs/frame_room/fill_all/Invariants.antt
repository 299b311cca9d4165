use Rattle.std.proofs.Common.{◌≡◌, ◌++◌, All, length}
use Rattle.pipe_columns.specs.Frame.{appended_all}
use Rattle.pipe_writers.specs.Room.{HasRoom, filled_columns}
use Rattle.pipe_writers.proofs.frame_room.fill_all.Given as goal

-- the columns so far are filled, and all have room
abbrev pub invariant-loop-other : goal.invariant-loop-other
invariant-loop-other l = record {
  done : l.done ≡ length l.yielded;
  columns : filled_columns l.columns ≡ appended_all l.yielded (filled_columns l.fn.columns);
  room : All (HasRoom l.most) l.columns;
  rest : l.fn.others.items ≡ l.yielded ++ l.other-iterator.rest.items;
}
