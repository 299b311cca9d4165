-- Of the proofs alone: how the states of all groups lie in columns.
use Rattle.std.specs.Prelude.{◌≡◌, ◌+◌, ◌≤◌, ◌<◌, ◌^◌, ℕ, zero, suc, List, [], ◌∷◌, length, map}
use Rattle.std.specs.List.{All}
use Rattle.pipe_running.specs.declared.function.AggregateFunction.{AggregateFunction}
use Rattle.pipe_running.specs.States.{joined}
use Rattle.pipe_kinds.specs.Columns.{ColumnStates, state_at, with_state}
use Rattle.pipe_kinds.specs.ManyStates.{ManyStates}

-- the states of a group: that of each column at an index
abbrev pub row_in : List ColumnStates → ℕ → List AggregateFunction
row_in cs i = map (λ c. state_at c.states i) cs

-- those of n groups, from the one at an index on
abbrev pub rows_from : List ColumnStates → ℕ → ℕ → List (List AggregateFunction)
rows_from cs i zero = []
rows_from cs i (suc n) = row_in cs i ∷ rows_from cs (suc i) n

-- states before any row
abbrev pub fresh_in : List ColumnStates → List AggregateFunction
fresh_in cs = map (λ c. c.fresh) cs

-- columns of states of so many groups, with memory for more, as contracts see them
abbrev pub seen_in : List ColumnStates → ℕ → ℕ → ManyStates
seen_in cs count room = record {
  fresh = fresh_in cs;
  groups = rows_from cs 0 count;
  room = room;
}

-- each column has memory for so many more groups
abbrev pub HaveRoom : ℕ → List ColumnStates → Type 0
HaveRoom room cs = All (λ c. room ≤ c.room) cs

-- each column has a state for each group, and memory for so many more
pub record AreStored (cs : List ColumnStates) (count room : ℕ) : Type 0 where
  pub heights : All (λ c. length c.states ≡ count) cs
  pub rooms : HaveRoom room cs
  pub bound : count + room < 2 ^ 64

-- a column whose state at an index is joined with that of another at one
abbrev pub with_joined : ℕ → ℕ → ColumnStates → ColumnStates → ColumnStates
with_joined i from o c = with_state i (joined (state_at c.states i) (state_at o.states from)) c

-- the first k columns joined so with others
abbrev pub joined_first : ℕ → ℕ → ℕ → List ColumnStates → List ColumnStates → List ColumnStates
joined_first i from zero os cs = cs
joined_first i from (suc k) os [] = []
joined_first i from (suc k) [] (c ∷ cs) = c ∷ cs
joined_first i from (suc k) (o ∷ os) (c ∷ cs) =
    with_joined i from o c ∷ joined_first i from k os cs

-- a column whose state at an index is as before any value
abbrev pub emptied_at : ℕ → ColumnStates → ColumnStates
emptied_at i c = with_state i c.fresh c
