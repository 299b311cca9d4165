-- Sums of groups, of one number type.
use Rattle.std.specs.Prelude.{ℕ, List, map}
use Rattle.pipe_native.specs.Native.{native_i32, native_i64, native_u32, native_u64}
use Rattle.pipe_running.specs.Transitions.{empty_sum}
use Rattle.pipe_running.specs.declared.function.AggregateFunction.{AggregateFunction}
use Rattle.pipe_running.specs.declared.function.AggregateFunction.TheVariants as function
use Rattle.pipe_kinds.specs.Columns.{room_in}
use Rattle.pipe_kinds.specs.declared.sum_states.SumStates.{SumStates}
use Rattle.pipe_kinds.specs.declared.sum_states.SumStates.TheVariants as sums

-- the sums, each as a running aggregate of any kind
abbrev pub sums_of : SumStates → List AggregateFunction
sums_of (sums.U32 states) = map function.SumU32 states.items
sums_of (sums.U64 states) = map function.SumU64 states.items
sums_of (sums.I32 states) = map function.SumI32 states.items
sums_of (sums.I64 states) = map function.SumI64 states.items

-- a sum before any value
abbrev pub fresh_sum : SumStates → AggregateFunction
fresh_sum (sums.U32 states) = function.SumU32 (empty_sum native_u32)
fresh_sum (sums.U64 states) = function.SumU64 (empty_sum native_u64)
fresh_sum (sums.I32 states) = function.SumI32 (empty_sum native_i32)
fresh_sum (sums.I64 states) = function.SumI64 (empty_sum native_i64)

-- for how many more sums there is memory
abbrev pub sum_room : SumStates → ℕ
sum_room (sums.U32 states) = room_in states
sum_room (sums.U64 states) = room_in states
sum_room (sums.I32 states) = room_in states
sum_room (sums.I64 states) = room_in states
