-- The states of groups, all of one kind.
use Rattle.std.specs.Prelude.{ℕ, Bool, false, List}
use Rattle.pipe_running.specs.declared.function.AggregateFunction.{AggregateFunction}
use Rattle.pipe_kinds.specs.CountStates.{count_room, counts_of, fresh_count}
use Rattle.pipe_kinds.specs.ExtremeStates.{extreme_room, extremes_of, fresh_extreme}
use Rattle.pipe_kinds.specs.OtherStates.{fresh_other, hold_values, other_room, others_of}
use Rattle.pipe_kinds.specs.SumStates.{fresh_sum, sum_room, sums_of}
use Rattle.pipe_kinds.specs.declared.kind.KindStates.{KindStates}
use Rattle.pipe_kinds.specs.declared.kind.KindStates.TheVariants as kind

-- the states, each as a running aggregate of any kind
abbrev pub states_of : KindStates → List AggregateFunction
states_of (kind.Counts states) = counts_of states
states_of (kind.Sums states) = sums_of states
states_of (kind.Extremes states) = extremes_of states
states_of (kind.Others states) = others_of states

-- one before any value
abbrev pub fresh_of : KindStates → AggregateFunction
fresh_of (kind.Counts states) = fresh_count states
fresh_of (kind.Sums states) = fresh_sum states
fresh_of (kind.Extremes states) = fresh_extreme states
fresh_of (kind.Others states) = fresh_other states

-- for how many more there is memory
abbrev pub room_of : KindStates → ℕ
room_of (kind.Counts states) = count_room states
room_of (kind.Sums states) = sum_room states
room_of (kind.Extremes states) = extreme_room states
room_of (kind.Others states) = other_room states

-- whether its states keep values themselves
abbrev pub is_held : KindStates → Bool
is_held (kind.Counts states) = false
is_held (kind.Sums states) = false
is_held (kind.Extremes states) = false
is_held (kind.Others states) = hold_values states
