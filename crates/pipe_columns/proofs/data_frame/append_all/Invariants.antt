use Rattle.std.proofs.Common.{◌≡◌, ◌++◌, length}
use Rattle.pipe_columns.specs.Frame.{appended_all}
use Rattle.pipe_columns.proofs.data_frame.append_all.Given as goal

abbrev pub invariant-loop-other : goal.invariant-loop-other
invariant-loop-other l = record {
  done : l.done ≡ length l.yielded;
  columns : l.columns ≡ appended_all l.yielded l.fn.columns;
  rest : l.fn.others.items ≡ l.yielded ++ l.other-iterator.rest.items;
}
