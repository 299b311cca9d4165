use Rattle.std.proofs.Common.{◌≡◌, ◌≤◌, ◌++◌, length, vec_capacity, vec_len}
use Rattle.pipe_writers.specs.Room.{filled_columns}
use Rattle.pipe_writers.proofs.frame_room.made_columns.Given as goal

-- the columns so far are at their places
abbrev pub invariant-loop-column : goal.invariant-loop-column
invariant-loop-column l = record {
  made : l.made.items ≡ filled_columns l.yielded;
  count : vec_len l.made ≡ length l.yielded;
  places : length l.fn.columns.items ≤ vec_capacity l.made;
  rest : l.fn.columns.items ≡ l.yielded ++ l.column-iterator.rest.items;
}
