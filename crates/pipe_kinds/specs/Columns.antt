-- Columns of running aggregates: each holds the states of all groups.
use Rattle.std.specs.Prelude.{ℕ, ◌+◌, ◌-◌, List, [], ◌∷◌, ◌++◌, length, slice_index_or, slice_set}
use Rattle.std.specs.Prelude.{Vec, vec_capacity, vec_len}
use Rattle.pipe_running.specs.Transitions.{empty_count}
use Rattle.pipe_running.specs.declared.function.AggregateFunction.{AggregateFunction}
use Rattle.pipe_running.specs.declared.function.AggregateFunction.TheVariants as function

-- a state before any value, the states of the groups, and for how many more there is memory
pub record ColumnStates : Type 0 where
  pub fresh : AggregateFunction
  pub states : List AggregateFunction
  pub room : ℕ

-- for how many more elements a vector has memory
abbrev pub room_in : {X Z : Type 0} → Vec X Z → ℕ
room_in v = vec_capacity v - vec_len v

-- what stands for a state past the last
abbrev pub no_state : AggregateFunction
no_state = function.Len empty_count

-- the state at an index
abbrev pub state_at : List AggregateFunction → ℕ → AggregateFunction
state_at states i = slice_index_or states i no_state

-- a column with one more state
abbrev pub pushed : ColumnStates → ColumnStates
pushed c = record {
  fresh = c.fresh;
  states = c.states ++ c.fresh ∷ [];
  room = c.room - 1;
}

-- a column without states, whose memory is there for others
abbrev pub cleared : ColumnStates → ColumnStates
cleared c = record {
  fresh = c.fresh;
  states = [];
  room = c.room + length c.states;
}

-- a column without states and without memory
abbrev pub released : ColumnStates → ColumnStates
released c = record {
  fresh = c.fresh;
  states = [];
  room = 0;
}

-- a column with the state at an index replaced
abbrev pub with_state : ℕ → AggregateFunction → ColumnStates → ColumnStates
with_state i s c = record c { states = slice_set c.states i s }
