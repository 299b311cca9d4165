-- Minimums or maximums of groups, of one number type.
use Rattle.std.specs.Prelude.{ℕ, List, map}
use Rattle.pipe_running.specs.Transitions.{empty_extreme}
use Rattle.pipe_running.specs.declared.function.AggregateFunction.{AggregateFunction}
use Rattle.pipe_running.specs.declared.function.AggregateFunction.TheVariants as function
use Rattle.pipe_running.specs.declared.min_max.Direction.{Direction}
use Rattle.pipe_kinds.specs.Columns.{room_in}
use Rattle.pipe_kinds.specs.declared.extreme_states.ExtremeStates.{ExtremeStates}
use Rattle.pipe_kinds.specs.declared.extreme_states.ExtremeNumbers.{ExtremeNumbers}
use Rattle.pipe_kinds.specs.declared.extreme_states.ExtremeNumbers.TheVariants as extremes

-- minimums or maximums of a number type, each as a running aggregate of any kind
abbrev pub numbers_of : ExtremeNumbers → List AggregateFunction
numbers_of (extremes.U8 states) = map function.MinMaxU8 states.items
numbers_of (extremes.U16 states) = map function.MinMaxU16 states.items
numbers_of (extremes.U32 states) = map function.MinMaxU32 states.items
numbers_of (extremes.U64 states) = map function.MinMaxU64 states.items
numbers_of (extremes.I8 states) = map function.MinMaxI8 states.items
numbers_of (extremes.I16 states) = map function.MinMaxI16 states.items
numbers_of (extremes.I32 states) = map function.MinMaxI32 states.items
numbers_of (extremes.I64 states) = map function.MinMaxI64 states.items

-- one before any value, in a direction
abbrev pub fresh_number : Direction → ExtremeNumbers → AggregateFunction
fresh_number d (extremes.U8 states) = function.MinMaxU8 (empty_extreme d)
fresh_number d (extremes.U16 states) = function.MinMaxU16 (empty_extreme d)
fresh_number d (extremes.U32 states) = function.MinMaxU32 (empty_extreme d)
fresh_number d (extremes.U64 states) = function.MinMaxU64 (empty_extreme d)
fresh_number d (extremes.I8 states) = function.MinMaxI8 (empty_extreme d)
fresh_number d (extremes.I16 states) = function.MinMaxI16 (empty_extreme d)
fresh_number d (extremes.I32 states) = function.MinMaxI32 (empty_extreme d)
fresh_number d (extremes.I64 states) = function.MinMaxI64 (empty_extreme d)

-- for how many more of a number type there is memory
abbrev pub number_room : ExtremeNumbers → ℕ
number_room (extremes.U8 states) = room_in states
number_room (extremes.U16 states) = room_in states
number_room (extremes.U32 states) = room_in states
number_room (extremes.U64 states) = room_in states
number_room (extremes.I8 states) = room_in states
number_room (extremes.I16 states) = room_in states
number_room (extremes.I32 states) = room_in states
number_room (extremes.I64 states) = room_in states

-- the minimums or maximums, each as a running aggregate of any kind
abbrev pub extremes_of : ExtremeStates → List AggregateFunction
extremes_of s = numbers_of s.numbers

-- a minimum or maximum before any value
abbrev pub fresh_extreme : ExtremeStates → AggregateFunction
fresh_extreme s = fresh_number s.direction s.numbers

-- for how many more minimums or maximums there is memory
abbrev pub extreme_room : ExtremeStates → ℕ
extreme_room s = number_room s.numbers
