use Rattle.std.proofs.Common.{◌≡◌, ◌-◌, ◌<◌, ◌⊎◌, ℕ, false, length, map, take, get_or, nat_eq}
use Rattle.pipe_kinds.specs.ManyStates.{states_in}
use Rattle.pipe_running.specs.GroupStates.{fresh_states, given_all}
use Rattle.pipe_groups.specs.Columns.{columns_of_unfinished, HaveRoom, with_rows}
use Rattle.pipe_groups.proofs.given.give_groups.Given as goal

-- the rows of the groups so far; the running aggregates of the others are as before
abbrev pub invariant-loop-index : goal.invariant-loop-index
invariant-loop-index l = record {
  others : (k : ℕ) → ((m : ℕ) → m < l.index-index → m < length l.taken → nat_eq (get_or l.taken m 0) k ≡ false) → states_in l.states k ≡ states_in l.initial.states k;
  each : (k : ℕ) → (states_in l.states k ≡ states_in l.initial.states k) ⊎ (states_in l.states k ≡ fresh_states (states_in l.initial.states k));
  columns : columns_of_unfinished l.columns ≡ with_rows (map (λ i. given_all (states_in l.initial.states i)) (take l.index-index l.taken)) (columns_of_unfinished l.initial.columns);
  room : HaveRoom (length l.taken - l.index-index) l.columns;
  count : length l.states.groups ≡ length l.initial.states.groups;
  like : l.states.fresh ≡ l.initial.states.fresh;
}
