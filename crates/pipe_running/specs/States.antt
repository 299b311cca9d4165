-- A running aggregate of any kind: what a value or another one makes of it, and what it gives.
use Rattle.std.specs.Prelude.{ℕ, ◌+◌, pos, Bool, true, false, List, [], ◌∷◌, fold}
use Rattle.pipe_columns.specs.declared.any_value.AnyValue.{AnyValue}
use Rattle.pipe_columns.specs.declared.any_value.AnyValue.TheVariants as av
use Rattle.pipe_columns.specs.declared.data_type.DataType.{DataType}
use Rattle.pipe_columns.specs.declared.data_type.DataType.TheVariants as dt
use Rattle.pipe_columns.specs.declared.place.Place.{Place}
use Rattle.pipe_columns.specs.AnyValue.{fits}
use Rattle.pipe_native.specs.Native.{native_i8, native_i16, native_i32, native_i64, native_u8, native_u16, native_u32, native_u64}
use Rattle.pipe_running.specs.declared.interface.Finalized.{Finalized}
use Rattle.pipe_running.specs.declared.interface.Finalized.TheVariants as finalized
use Rattle.pipe_running.specs.declared.min_max.Direction.{Direction}
use Rattle.pipe_running.specs.declared.min_max.Direction.TheVariants as direction
use Rattle.pipe_running.specs.declared.function.AggregateFunction.{AggregateFunction}
use Rattle.pipe_running.specs.declared.function.AggregateFunction.TheVariants as function
use Rattle.pipe_model.specs.Aggregate.{counted, entry_value}
use Rattle.pipe_model.specs.Kind.{Kind}
use Rattle.pipe_model.specs.Kind as kind
use Rattle.pipe_running.specs.Mean.{is_short}
use Rattle.pipe_running.specs.Transitions.{count_after, empty_count, empty_extreme, empty_first, empty_last, empty_mean, empty_sum, extreme_after, extreme_value, extremes_joined, first_after, firsts_joined, last_after, lasts_joined, mean_after, mean_given, means_joined, same_direction, sum_state_after, sums_joined}

-- the kind of a minimum or a maximum
abbrev pub kind_of_direction : Direction → Kind
kind_of_direction direction.Min = kind.min
kind_of_direction direction.Max = kind.max

-- the kind of a running aggregate; a null serves as the sum of texts
abbrev pub kind_of : AggregateFunction → Kind
kind_of (function.First a) = kind.first
kind_of (function.Last a) = kind.last
kind_of (function.Count a) = kind.count
kind_of (function.Len a) = kind.len
kind_of (function.SumU32 a) = kind.sum
kind_of (function.SumU64 a) = kind.sum
kind_of (function.SumI32 a) = kind.sum
kind_of (function.SumI64 a) = kind.sum
kind_of (function.Mean a) = kind.mean
kind_of (function.Null a) = kind.sum
kind_of (function.MinMaxU8 a) = kind_of_direction a.direction
kind_of (function.MinMaxU16 a) = kind_of_direction a.direction
kind_of (function.MinMaxU32 a) = kind_of_direction a.direction
kind_of (function.MinMaxU64 a) = kind_of_direction a.direction
kind_of (function.MinMaxI8 a) = kind_of_direction a.direction
kind_of (function.MinMaxI16 a) = kind_of_direction a.direction
kind_of (function.MinMaxI32 a) = kind_of_direction a.direction
kind_of (function.MinMaxI64 a) = kind_of_direction a.direction

-- the same aggregate before any value
abbrev pub fresh : AggregateFunction → AggregateFunction
fresh (function.First a) = function.First (empty_first a.dtype)
fresh (function.Last a) = function.Last (empty_last a.dtype)
fresh (function.Count a) = function.Count empty_count
fresh (function.Len a) = function.Len empty_count
fresh (function.SumU32 a) = function.SumU32 (empty_sum native_u32)
fresh (function.SumU64 a) = function.SumU64 (empty_sum native_u64)
fresh (function.SumI32 a) = function.SumI32 (empty_sum native_i32)
fresh (function.SumI64 a) = function.SumI64 (empty_sum native_i64)
fresh (function.Mean a) = function.Mean empty_mean
fresh (function.Null a) = function.Null a
fresh (function.MinMaxU8 a) = function.MinMaxU8 (empty_extreme a.direction)
fresh (function.MinMaxU16 a) = function.MinMaxU16 (empty_extreme a.direction)
fresh (function.MinMaxU32 a) = function.MinMaxU32 (empty_extreme a.direction)
fresh (function.MinMaxU64 a) = function.MinMaxU64 (empty_extreme a.direction)
fresh (function.MinMaxI8 a) = function.MinMaxI8 (empty_extreme a.direction)
fresh (function.MinMaxI16 a) = function.MinMaxI16 (empty_extreme a.direction)
fresh (function.MinMaxI32 a) = function.MinMaxI32 (empty_extreme a.direction)
fresh (function.MinMaxI64 a) = function.MinMaxI64 (empty_extreme a.direction)

-- a running aggregate with one more value
abbrev pub after_value : Place → AnyValue → AggregateFunction → AggregateFunction
after_value p v (function.First a) = function.First (first_after p v a)
after_value p v (function.Last a) = function.Last (last_after p v a)
after_value p v (function.Count a) = function.Count (record { count = count_after false v a.count })
after_value p v (function.Len a) = function.Len (record { count = count_after true v a.count })
after_value p v (function.SumU32 a) = function.SumU32 (sum_state_after native_u32 v a)
after_value p v (function.SumU64 a) = function.SumU64 (sum_state_after native_u64 v a)
after_value p v (function.SumI32 a) = function.SumI32 (sum_state_after native_i32 v a)
after_value p v (function.SumI64 a) = function.SumI64 (sum_state_after native_i64 v a)
after_value p v (function.Mean a) = function.Mean (mean_after v a)
after_value p v (function.Null a) = function.Null a
after_value p v (function.MinMaxU8 a) = function.MinMaxU8 (extreme_after native_u8 v a)
after_value p v (function.MinMaxU16 a) = function.MinMaxU16 (extreme_after native_u16 v a)
after_value p v (function.MinMaxU32 a) = function.MinMaxU32 (extreme_after native_u32 v a)
after_value p v (function.MinMaxU64 a) = function.MinMaxU64 (extreme_after native_u64 v a)
after_value p v (function.MinMaxI8 a) = function.MinMaxI8 (extreme_after native_i8 v a)
after_value p v (function.MinMaxI16 a) = function.MinMaxI16 (extreme_after native_i16 v a)
after_value p v (function.MinMaxI32 a) = function.MinMaxI32 (extreme_after native_i32 v a)
after_value p v (function.MinMaxI64 a) = function.MinMaxI64 (extreme_after native_i64 v a)

-- two running aggregates of one kind together
abbrev pub joined : AggregateFunction → AggregateFunction → AggregateFunction
joined (function.First a) (function.First b) = function.First (firsts_joined a b)
joined (function.Last a) (function.Last b) = function.Last (lasts_joined a b)
joined (function.Count a) (function.Count b) = function.Count (record { count = a.count + b.count })
joined (function.Len a) (function.Len b) = function.Len (record { count = a.count + b.count })
joined (function.SumU32 a) (function.SumU32 b) = function.SumU32 (sums_joined native_u32 a b)
joined (function.SumU64 a) (function.SumU64 b) = function.SumU64 (sums_joined native_u64 a b)
joined (function.SumI32 a) (function.SumI32 b) = function.SumI32 (sums_joined native_i32 a b)
joined (function.SumI64 a) (function.SumI64 b) = function.SumI64 (sums_joined native_i64 a b)
joined (function.Mean a) (function.Mean b) = function.Mean (means_joined a b)
joined (function.Null a) (function.Null b) = function.Null a
joined (function.MinMaxU8 a) (function.MinMaxU8 b) =
    function.MinMaxU8 (extremes_joined native_u8 a b)
joined (function.MinMaxU16 a) (function.MinMaxU16 b) =
    function.MinMaxU16 (extremes_joined native_u16 a b)
joined (function.MinMaxU32 a) (function.MinMaxU32 b) =
    function.MinMaxU32 (extremes_joined native_u32 a b)
joined (function.MinMaxU64 a) (function.MinMaxU64 b) =
    function.MinMaxU64 (extremes_joined native_u64 a b)
joined (function.MinMaxI8 a) (function.MinMaxI8 b) =
    function.MinMaxI8 (extremes_joined native_i8 a b)
joined (function.MinMaxI16 a) (function.MinMaxI16 b) =
    function.MinMaxI16 (extremes_joined native_i16 a b)
joined (function.MinMaxI32 a) (function.MinMaxI32 b) =
    function.MinMaxI32 (extremes_joined native_i32 a b)
joined (function.MinMaxI64 a) (function.MinMaxI64 b) =
    function.MinMaxI64 (extremes_joined native_i64 a b)
joined a b = a

-- whether two running aggregates are of one kind
abbrev pub alike : AggregateFunction → AggregateFunction → Bool
alike (function.First a) (function.First b) = true
alike (function.Last a) (function.Last b) = true
alike (function.Count a) (function.Count b) = true
alike (function.Len a) (function.Len b) = true
alike (function.SumU32 a) (function.SumU32 b) = true
alike (function.SumU64 a) (function.SumU64 b) = true
alike (function.SumI32 a) (function.SumI32 b) = true
alike (function.SumI64 a) (function.SumI64 b) = true
alike (function.Mean a) (function.Mean b) = true
alike (function.Null a) (function.Null b) = true
alike (function.MinMaxU8 a) (function.MinMaxU8 b) = same_direction a.direction b.direction
alike (function.MinMaxU16 a) (function.MinMaxU16 b) = same_direction a.direction b.direction
alike (function.MinMaxU32 a) (function.MinMaxU32 b) = same_direction a.direction b.direction
alike (function.MinMaxU64 a) (function.MinMaxU64 b) = same_direction a.direction b.direction
alike (function.MinMaxI8 a) (function.MinMaxI8 b) = same_direction a.direction b.direction
alike (function.MinMaxI16 a) (function.MinMaxI16 b) = same_direction a.direction b.direction
alike (function.MinMaxI32 a) (function.MinMaxI32 b) = same_direction a.direction b.direction
alike (function.MinMaxI64 a) (function.MinMaxI64 b) = same_direction a.direction b.direction
alike a b = false

-- whether a running aggregate takes a value
abbrev pub takes : AggregateFunction → AnyValue → Bool
takes (function.First a) v = true
takes (function.Last a) v = true
takes (function.Count a) v = true
takes (function.Len a) v = true
takes (function.SumU32 a) v = true
takes (function.SumU64 a) v = true
takes (function.SumI32 a) v = true
takes (function.SumI64 a) v = true
takes (function.Mean a) v = is_short v
takes (function.Null a) v = true
takes (function.MinMaxU8 a) v = fits v dt.UInt8
takes (function.MinMaxU16 a) v = fits v dt.UInt16
takes (function.MinMaxU32 a) v = fits v dt.UInt32
takes (function.MinMaxU64 a) v = fits v dt.UInt64
takes (function.MinMaxI8 a) v = fits v dt.Int8
takes (function.MinMaxI16 a) v = fits v dt.Int16
takes (function.MinMaxI32 a) v = fits v dt.Int32
takes (function.MinMaxI64 a) v = fits v dt.Int64

-- how many values a running aggregate has counted, 0 where it counts none
abbrev pub seen : AggregateFunction → ℕ
seen (function.Count a) = a.count
seen (function.Len a) = a.count
seen (function.Mean a) = a.count
seen f = 0

-- whether a running aggregate works on numbers: a sum, a mean, a least or a greatest value
abbrev pub is_physical : AggregateFunction → Bool
is_physical (function.First a) = false
is_physical (function.Last a) = false
is_physical (function.Count a) = false
is_physical (function.Len a) = false
is_physical (function.Null a) = false
is_physical f = true

-- the type of the first column of a running aggregate
abbrev pub first_type : AggregateFunction → DataType
first_type (function.First a) = a.dtype
first_type (function.Last a) = a.dtype
first_type (function.Count a) = dt.UInt32
first_type (function.Len a) = dt.UInt32
first_type (function.SumU32 a) = dt.UInt32
first_type (function.SumU64 a) = dt.UInt64
first_type (function.SumI32 a) = dt.Int32
first_type (function.SumI64 a) = dt.Int64
first_type (function.Mean a) = dt.Int128
first_type (function.Null a) = a.0
first_type (function.MinMaxU8 a) = dt.UInt8
first_type (function.MinMaxU16 a) = dt.UInt16
first_type (function.MinMaxU32 a) = dt.UInt32
first_type (function.MinMaxU64 a) = dt.UInt64
first_type (function.MinMaxI8 a) = dt.Int8
first_type (function.MinMaxI16 a) = dt.Int16
first_type (function.MinMaxI32 a) = dt.Int32
first_type (function.MinMaxI64 a) = dt.Int64

-- what a running aggregate gives
abbrev pub given : AggregateFunction → Finalized
given (function.First a) = finalized.One (entry_value a.held)
given (function.Last a) = finalized.One (entry_value a.held)
given (function.Count a) = finalized.One (counted a.count)
given (function.Len a) = finalized.One (counted a.count)
given (function.SumU32 a) = finalized.One (av.Int (pos a.sum))
given (function.SumU64 a) = finalized.One (av.Int (pos a.sum))
given (function.SumI32 a) = finalized.One (av.Int a.sum)
given (function.SumI64 a) = finalized.One (av.Int a.sum)
given (function.Mean a) = mean_given a
given (function.Null a) = finalized.One av.Null
given (function.MinMaxU8 a) = finalized.One (extreme_value native_u8 a.extreme)
given (function.MinMaxU16 a) = finalized.One (extreme_value native_u16 a.extreme)
given (function.MinMaxU32 a) = finalized.One (extreme_value native_u32 a.extreme)
given (function.MinMaxU64 a) = finalized.One (extreme_value native_u64 a.extreme)
given (function.MinMaxI8 a) = finalized.One (extreme_value native_i8 a.extreme)
given (function.MinMaxI16 a) = finalized.One (extreme_value native_i16 a.extreme)
given (function.MinMaxI32 a) = finalized.One (extreme_value native_i32 a.extreme)
given (function.MinMaxI64 a) = finalized.One (extreme_value native_i64 a.extreme)

-- the values of the output columns
abbrev pub output_values : Finalized → List AnyValue
output_values (finalized.One v) = v ∷ []
output_values (finalized.Pair v w) = v ∷ w ∷ []

-- a running aggregate with entries added one by one
abbrev pub after_entries : List (Place × AnyValue) → AggregateFunction → AggregateFunction
after_entries entries f = fold (λ s e. after_value e.0 e.1 s) f entries
