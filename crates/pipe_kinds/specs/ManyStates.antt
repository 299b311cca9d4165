-- The states of all groups, group by group: each group has one for each aggregate.
use Rattle.std.specs.Prelude.{◌≡◌, ◌+◌, ◌-◌, ◌<◌, ◌^◌, ℕ, true, List, [], ◌∷◌, ◌++◌, slice_index_or}
use Rattle.std.specs.Prelude.{slice_set}
use Rattle.pipe_running.specs.declared.function.AggregateFunction.{AggregateFunction}
use Rattle.pipe_running.specs.States.{alike, seen}
use Rattle.pipe_kinds.specs.Columns.{state_at}

-- the states of a group before any row, those of the groups, and for how many more there is memory
pub record ManyStates : Type 0 where
  pub fresh : List AggregateFunction
  pub groups : List (List AggregateFunction)
  pub room : ℕ

-- the states of the group at an index
abbrev pub states_in : ManyStates → ℕ → List AggregateFunction
states_in m i = slice_index_or m.groups i []

-- the state of a group for the aggregate at a position
abbrev pub state_of : ManyStates → ℕ → ℕ → AggregateFunction
state_of m i j = state_at (states_in m i) j

-- groups with the states of one replaced
abbrev pub with_states : ℕ → List AggregateFunction → ManyStates → ManyStates
with_states i states m = record m { groups = slice_set m.groups i states }

-- groups with the state of one for an aggregate replaced
abbrev pub with_state_of : ℕ → ℕ → AggregateFunction → ManyStates → ManyStates
with_state_of i j s m = with_states i (slice_set (states_in m i) j s) m

-- one more group, without rows
abbrev pub with_fresh : ManyStates → ManyStates
with_fresh m = record {
  fresh = m.fresh;
  groups = m.groups ++ m.fresh ∷ [];
  room = m.room - 1;
}

-- states may be joined one to one: they are of one kind, and have counted fewer than 2^32 values
-- together
abbrev pub AreJoinable : List AggregateFunction → List AggregateFunction → Type 0
AreJoinable [] [] = Unit {0}
AreJoinable [] (t ∷ ts) = ⊥
AreJoinable (s ∷ ss) [] = ⊥
AreJoinable (s ∷ ss) (t ∷ ts) =
    (alike s t ≡ true) × (seen s + seen t < 2 ^ 32) × AreJoinable ss ts
