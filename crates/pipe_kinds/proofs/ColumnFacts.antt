-- A column as contracts see it.
use Rattle.std.proofs.Common.{◌≡◌, ℕ, List, set, refl}
use Rattle.pipe_running.specs.declared.function.AggregateFunction.{AggregateFunction}
use Rattle.pipe_kinds.specs.Columns.{ColumnStates, with_state}

-- a column of which only the state at an index is another
pub put-state : (c : ColumnStates) (i : ℕ) (s fresh : AggregateFunction) (states : List AggregateFunction) (room : ℕ) → fresh ≡ c.fresh → states ≡ set c.states i s → room ≡ c.room
    → ◌≡◌ {A = ColumnStates} (record { fresh = fresh; states = states; room = room }) (with_state i s c)
put-state c i s fresh states room e f g = rw (e, f, g) refl
