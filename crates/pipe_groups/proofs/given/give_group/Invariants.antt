use Rattle.std.proofs.Common.{◌≡◌, ◌+◌, ℕ, length, take}
use Rattle.pipe_kinds.specs.ManyStates.{states_in}
use Rattle.pipe_running.specs.GroupStates.{fresh_states, given_all}
use Rattle.pipe_groups.specs.Columns.{columns_of_unfinished, HaveRoom, HaveRoomFrom, with_values}
use Rattle.pipe_groups.proofs.ManyFacts.{ChangedTo}
use Rattle.pipe_groups.proofs.given.give_group.Given as goal

-- what the running aggregates so far give, which are then as before any row
abbrev pub invariant-loop-j : goal.invariant-loop-j
invariant-loop-j l = record {
  at : l.at ≡ length (given_all (take l.j (states_in l.initial.states l.index)));
  columns : columns_of_unfinished l.columns ≡ with_values (given_all (take l.j (states_in l.initial.states l.index))) (columns_of_unfinished l.initial.columns);
  room : (n : ℕ) → HaveRoom (n + 1) l.initial.columns → HaveRoomFrom n l.at l.columns;
  changed : ChangedTo l.initial.states l.states l.index l.j;
  fresh : take l.j (states_in l.states l.index) ≡ fresh_states (take l.j (states_in l.initial.states l.index));
}
