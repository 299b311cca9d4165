use Rattle.std.proofs.Common.{◌≡◌, ◌+◌, ◌≤◌, ◌++◌, length, vec_len, vec_capacity}
use Rattle.pipe_groups.specs.Columns.{columns_of_unfinished}
use Rattle.pipe_groups.proofs.unfinished.finish_all.Given as goal

-- the columns so far stand behind the others
abbrev pub invariant-loop-column : goal.invariant-loop-column
invariant-loop-column l = record {
  columns : l.finished.items ≡ l.initial.finished.items ++ columns_of_unfinished l.yielded;
  rest : l.fn.columns.items ≡ l.yielded ++ l.column-iterator.rest.items;
  len : vec_len l.finished ≡ vec_len l.initial.finished + length l.yielded;
  capacity : vec_capacity l.initial.finished ≤ vec_capacity l.finished;
}
