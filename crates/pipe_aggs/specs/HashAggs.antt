-- The running aggregate that an expression becomes, and what it is fed.
use Rattle.std.specs.Prelude.{◌<◌, map, List, length, ⊤}
use Rattle.pipe_columns.specs.declared.data_type.DataType.{DataType}
use Rattle.pipe_columns.specs.declared.data_type.DataType.TheVariants as dt
use Rattle.pipe_native.specs.Native.{native_i32, native_i64, native_u32, native_u64}
use Rattle.pipe_model.specs.Kind.{Kind}
use Rattle.pipe_model.specs.Kind as kind
use Rattle.pipe_running.specs.Transitions.{empty_count, empty_extreme, empty_first, empty_last, empty_mean, empty_sum}
use Rattle.pipe_running.specs.declared.function.AggregateFunction.{AggregateFunction}
use Rattle.pipe_running.specs.declared.function.AggregateFunction.TheVariants as function
use Rattle.pipe_running.specs.declared.min_max.Direction.{Direction}
use Rattle.pipe_running.specs.declared.min_max.Direction.TheVariants as direction
use Rattle.pipe_exprs.specs.declared.expression.AExpr.{AExpr}
use Rattle.pipe_aggs.specs.declared.hash_agg.AggInput.{AggInput}
use Rattle.pipe_aggs.specs.declared.hash_agg.AggInput.TheVariants as input
use Rattle.pipe_model.specs.Output.{input_type}
use Rattle.pipe_model.specs.Query.{each, Input, QueryTree, rows_alone}
use Rattle.pipe_exprs.specs.Trees.{tree}

-- a null of a type, where a kind has no running aggregate over it
abbrev pub null_function : DataType → AggregateFunction
null_function t = function.Null (record { 0 = t })

-- the sum of values of a type
abbrev pub sum_function : DataType → AggregateFunction
sum_function dt.Boolean = function.SumU32 (empty_sum native_u32)
sum_function dt.Int8 = function.SumI64 (empty_sum native_i64)
sum_function dt.Int16 = function.SumI64 (empty_sum native_i64)
sum_function dt.Int32 = function.SumI32 (empty_sum native_i32)
sum_function dt.Int64 = function.SumI64 (empty_sum native_i64)
sum_function dt.UInt8 = function.SumI64 (empty_sum native_i64)
sum_function dt.UInt16 = function.SumI64 (empty_sum native_i64)
sum_function dt.UInt32 = function.SumU32 (empty_sum native_u32)
sum_function dt.UInt64 = function.SumU64 (empty_sum native_u64)
sum_function dt.Int128 = null_function dt.Int128
sum_function dt.Date = null_function dt.Date
sum_function dt.String = null_function dt.String

-- the mean of values of a type
abbrev pub mean_function : DataType → AggregateFunction
mean_function dt.Boolean = function.Mean empty_mean
mean_function dt.Int8 = function.Mean empty_mean
mean_function dt.Int16 = function.Mean empty_mean
mean_function dt.Int32 = function.Mean empty_mean
mean_function dt.Int64 = function.Mean empty_mean
mean_function dt.UInt8 = function.Mean empty_mean
mean_function dt.UInt16 = function.Mean empty_mean
mean_function dt.UInt32 = function.Mean empty_mean
mean_function dt.UInt64 = function.Mean empty_mean
mean_function dt.Int128 = null_function dt.Int128
mean_function dt.Date = null_function dt.Date
mean_function dt.String = null_function dt.String

-- the least or the greatest of numbers of a type
abbrev pub extreme_function : Direction → DataType → AggregateFunction
extreme_function d dt.Boolean = null_function dt.Boolean
extreme_function d dt.Int8 = function.MinMaxI8 (empty_extreme d)
extreme_function d dt.Int16 = function.MinMaxI16 (empty_extreme d)
extreme_function d dt.Int32 = function.MinMaxI32 (empty_extreme d)
extreme_function d dt.Int64 = function.MinMaxI64 (empty_extreme d)
extreme_function d dt.UInt8 = function.MinMaxU8 (empty_extreme d)
extreme_function d dt.UInt16 = function.MinMaxU16 (empty_extreme d)
extreme_function d dt.UInt32 = function.MinMaxU32 (empty_extreme d)
extreme_function d dt.UInt64 = function.MinMaxU64 (empty_extreme d)
extreme_function d dt.Int128 = null_function dt.Int128
extreme_function d dt.Date = null_function dt.Date
extreme_function d dt.String = null_function dt.String

-- the running aggregate of a kind over values of a type, before any value
abbrev pub function_for : Kind → DataType → AggregateFunction
function_for kind.sum t = sum_function t
function_for kind.mean t = mean_function t
function_for kind.min t = extreme_function direction.Min t
function_for kind.max t = extreme_function direction.Max t
function_for kind.first t = function.First (empty_first t)
function_for kind.last t = function.Last (empty_last t)
function_for kind.count t = function.Count empty_count
function_for kind.len t = function.Len empty_count

-- what an aggregate is fed, by the nodes of an arena
abbrev pub input_of : List AExpr → AggInput → Input
input_of exprs (input.Expr e) = each (tree exprs e.node)
input_of exprs (input.Len n) = rows_alone

-- what an aggregate is fed is in an arena
abbrev pub IsThere : List AExpr → AggInput → Type 0
IsThere exprs (input.Expr e) = e.node.0 < length exprs
IsThere exprs (input.Len n) = ⊤

-- the running aggregates of a query's aggregates, before any row
abbrev pub prototypes : QueryTree → List AggregateFunction
prototypes q = map (λ a. function_for a.kind (input_type q.schema a.input)) q.aggs
