use Rattle.std.proofs.Common.{◌≡◌, ◌++◌, map}
use Rattle.pipe_saving.proofs.rows.lists_of.Given as goal

-- the lists so far are those of the columns that were given
abbrev pub invariant-loop-column : goal.invariant-loop-column
invariant-loop-column l = record {
  lists : l.lists.items ≡ map (λ c. c.values) l.yielded;
  rest : l.fn.columns.items ≡ l.yielded ++ l.column-iterator.rest.items;
}
