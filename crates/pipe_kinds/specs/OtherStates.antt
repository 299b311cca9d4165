-- Means, firsts, lasts, or what is always null, of groups.
use Rattle.std.specs.Prelude.{ℕ, Bool, true, false, List, map}
use Rattle.pipe_running.specs.Transitions.{empty_first, empty_last, empty_mean}
use Rattle.pipe_running.specs.declared.function.AggregateFunction.{AggregateFunction}
use Rattle.pipe_running.specs.declared.function.AggregateFunction.TheVariants as function
use Rattle.pipe_kinds.specs.Columns.{room_in}
use Rattle.pipe_kinds.specs.declared.other_states.OtherStates.{OtherStates}
use Rattle.pipe_kinds.specs.declared.other_states.OtherStates.TheVariants as others

-- the states, each as a running aggregate of any kind
abbrev pub others_of : OtherStates → List AggregateFunction
others_of (others.Mean states) = map function.Mean states.items
others_of (others.Null t states) = map function.Null states.items
others_of (others.First t states) = states.items
others_of (others.Last t states) = states.items

-- one of them before any value
abbrev pub fresh_other : OtherStates → AggregateFunction
fresh_other (others.Mean states) = function.Mean empty_mean
fresh_other (others.Null t states) = function.Null (record { 0 = t })
fresh_other (others.First t states) = function.First (empty_first t)
fresh_other (others.Last t states) = function.Last (empty_last t)

-- for how many more of them there is memory
abbrev pub other_room : OtherStates → ℕ
other_room (others.Mean states) = room_in states
other_room (others.Null t states) = room_in states
other_room (others.First t states) = room_in states
other_room (others.Last t states) = room_in states

-- whether they keep values themselves
abbrev pub hold_values : OtherStates → Bool
hold_values (others.Mean states) = false
hold_values (others.Null t states) = false
hold_values (others.First t states) = true
hold_values (others.Last t states) = true
