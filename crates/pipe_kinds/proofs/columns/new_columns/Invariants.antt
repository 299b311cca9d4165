use Rattle.std.proofs.Common.{◌≡◌, length, take}
use Rattle.std.specs.List.{All}
use Rattle.pipe_running.specs.GroupStates.{fresh_states}
use Rattle.pipe_kinds.specs.Columns.{ColumnStates}
use Rattle.pipe_kinds.specs.Stored.{fresh_in}
use Rattle.pipe_kinds.proofs.columns.new_columns.Given as goal

-- the columns so far
abbrev pub invariant-loop-prototype : goal.invariant-loop-prototype
invariant-loop-prototype l = record {
  fresh : fresh_in l.columns.items ≡ fresh_states (take l.prototype-index l.prototypes);
  states : All (λ (c : ColumnStates). length c.states ≡ 0) l.columns.items;
}
