-- Counts of groups, of values or of rows.
use Rattle.std.specs.Prelude.{ℕ, List, map}
use Rattle.pipe_running.specs.Transitions.{empty_count}
use Rattle.pipe_running.specs.declared.function.AggregateFunction.{AggregateFunction}
use Rattle.pipe_running.specs.declared.function.AggregateFunction.TheVariants as function
use Rattle.pipe_kinds.specs.Columns.{room_in}
use Rattle.pipe_kinds.specs.declared.count_states.CountStates.{CountStates}
use Rattle.pipe_kinds.specs.declared.count_states.CountStates.TheVariants as counts

-- the counts, each as a running aggregate of any kind
abbrev pub counts_of : CountStates → List AggregateFunction
counts_of (counts.Count states) = map function.Count states.items
counts_of (counts.Len states) = map function.Len states.items

-- a count before any value
abbrev pub fresh_count : CountStates → AggregateFunction
fresh_count (counts.Count states) = function.Count empty_count
fresh_count (counts.Len states) = function.Len empty_count

-- for how many more counts there is memory
abbrev pub count_room : CountStates → ℕ
count_room (counts.Count states) = room_in states
count_room (counts.Len states) = room_in states
