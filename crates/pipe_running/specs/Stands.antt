-- What a running aggregate stands for: a list of placed values, in which places may repeat.
use Rattle.std.specs.Prelude.{◌≡◌, ℕ, Bool, true, false, nat_lt, List, [], ◌∷◌, length, Option, Some, None, if◌then◌else◌, ⊤}
use Rattle.std.specs.declared.cmp.Ordering.{Ordering}
use Rattle.std.specs.Ordering.{flip_args}
use Rattle.pipe_columns.specs.declared.any_value.AnyValue.{AnyValue}
use Rattle.pipe_columns.specs.declared.any_value.AnyValue.TheVariants as av
use Rattle.pipe_columns.specs.declared.data_type.DataType.{DataType}
use Rattle.pipe_columns.specs.declared.data_type.DataType.TheVariants as dt
use Rattle.pipe_columns.specs.declared.place.Place.{Place}
use Rattle.pipe_columns.specs.AnyValue.{fits, value_cmp}
use Rattle.pipe_native.specs.Native.{Native, native_i8, native_i16, native_i32, native_i64, native_u8, native_u16, native_u32, native_u64}
use Rattle.pipe_running.specs.declared.interface.Finalized.{Finalized}
use Rattle.pipe_running.specs.declared.interface.Finalized.TheVariants as finalized
use Rattle.pipe_running.specs.declared.min_max.Direction.{Direction}
use Rattle.pipe_running.specs.declared.min_max.Direction.TheVariants as direction
use Rattle.pipe_running.specs.declared.min_max.MinMaxAgg.{MinMaxAgg}
use Rattle.pipe_running.specs.declared.sum.SumAgg.{SumAgg}
use Rattle.pipe_running.specs.declared.function.AggregateFunction.{AggregateFunction}
use Rattle.pipe_running.specs.declared.function.AggregateFunction.TheVariants as function
use Rattle.pipe_model.specs.Aggregate.{exact_sum, present, values_in}
use Rattle.pipe_model.specs.Least.{by_place, from_last, HoldsLeast}
use Rattle.pipe_columns.specs.DataType.{has_mean, sum_type}
use Rattle.pipe_running.specs.Mean.{MeanState}
use Rattle.pipe_running.specs.States.{first_type}

-- the number of entries, or of those that are no null
abbrev pub tally : Bool → List (Place × AnyValue) → ℕ
tally include_null entries =
    if include_null then length entries else length (present (values_in entries))

-- the wrapped sum, and whether a value came
pub record SumStands {K : Type 0} (k : Native K) (a : SumAgg K)
    (entries : List (Place × AnyValue)) : Type 0 where
  pub sum : a.sum ≡ k.wrap (exact_sum (values_in entries))
  pub came : a.came ≡ nat_lt 0 (tally false entries)

-- the exact sum, and the number of values
pub record MeanStands (a : MeanState) (entries : List (Place × AnyValue)) : Type 0 where
  pub sum : a.sum ≡ exact_sum (values_in entries)
  pub count : a.count ≡ tally false entries

-- values in a direction
abbrev pub value_order : Direction → AnyValue → AnyValue → Ordering
value_order direction.Min = value_cmp
value_order direction.Max = flip_args value_cmp

-- the numbers that are held, as values
abbrev pub held_value : {K : Type 0} → Native K → Option K → Option AnyValue
held_value k None = None
held_value k (Some n) = Some (av.Int (k.number n))

-- the least or greatest value that is no null
abbrev pub ExtremeStands : {K : Type 0} → Native K → MinMaxAgg K → List (Place × AnyValue) → Type 0
ExtremeStands k a entries =
    HoldsLeast (value_order a.direction) (held_value k a.extreme) (present (values_in entries))

-- a running aggregate is in the state that a list of placed values makes of it
abbrev pub Stands : AggregateFunction → List (Place × AnyValue) → Type 0
Stands (function.First a) entries = HoldsLeast by_place a.held entries
Stands (function.Last a) entries = HoldsLeast from_last a.held entries
Stands (function.Count a) entries = a.count ≡ tally false entries
Stands (function.Len a) entries = a.count ≡ tally true entries
Stands (function.SumU32 a) entries = SumStands native_u32 a entries
Stands (function.SumU64 a) entries = SumStands native_u64 a entries
Stands (function.SumI32 a) entries = SumStands native_i32 a entries
Stands (function.SumI64 a) entries = SumStands native_i64 a entries
Stands (function.Mean a) entries = MeanStands a entries
Stands (function.Null a) entries = ⊤
Stands (function.MinMaxU8 a) entries = ExtremeStands native_u8 a entries
Stands (function.MinMaxU16 a) entries = ExtremeStands native_u16 a entries
Stands (function.MinMaxU32 a) entries = ExtremeStands native_u32 a entries
Stands (function.MinMaxU64 a) entries = ExtremeStands native_u64 a entries
Stands (function.MinMaxI8 a) entries = ExtremeStands native_i8 a entries
Stands (function.MinMaxI16 a) entries = ExtremeStands native_i16 a entries
Stands (function.MinMaxI32 a) entries = ExtremeStands native_i32 a entries
Stands (function.MinMaxI64 a) entries = ExtremeStands native_i64 a entries

-- whether a running aggregate is one of values of a type
abbrev pub Suits : AggregateFunction → DataType → Type 0
Suits (function.First a) t = a.dtype ≡ t
Suits (function.Last a) t = a.dtype ≡ t
Suits (function.Count a) t = ⊤
Suits (function.Len a) t = ⊤
Suits (function.SumU32 a) t = sum_type t ≡ dt.UInt32
Suits (function.SumU64 a) t = sum_type t ≡ dt.UInt64
Suits (function.SumI32 a) t = sum_type t ≡ dt.Int32
Suits (function.SumI64 a) t = sum_type t ≡ dt.Int64
Suits (function.Mean a) t = has_mean t ≡ true
Suits (function.Null a) t = t ≡ dt.String
Suits (function.MinMaxU8 a) t = t ≡ dt.UInt8
Suits (function.MinMaxU16 a) t = t ≡ dt.UInt16
Suits (function.MinMaxU32 a) t = t ≡ dt.UInt32
Suits (function.MinMaxU64 a) t = t ≡ dt.UInt64
Suits (function.MinMaxI8 a) t = t ≡ dt.Int8
Suits (function.MinMaxI16 a) t = t ≡ dt.Int16
Suits (function.MinMaxI32 a) t = t ≡ dt.Int32
Suits (function.MinMaxI64 a) t = t ≡ dt.Int64

-- the types of what a running aggregate gives: a mean gives a sum and a count
abbrev pub given_types : AggregateFunction → List DataType
given_types (function.Mean a) = dt.Int128 ∷ dt.UInt32 ∷ []
given_types f = first_type f ∷ []

-- values fit types, one to one
abbrev pub FitTypes : List AnyValue → List DataType → Type 0
FitTypes [] [] = ⊤
FitTypes [] (t ∷ ts) = ⊥
FitTypes (v ∷ vs) [] = ⊥
FitTypes (v ∷ vs) (t ∷ ts) = (fits v t ≡ true) × FitTypes vs ts

-- whether what is given has two parts
abbrev pub is_pair : Finalized → Bool
is_pair (finalized.One v) = false
is_pair (finalized.Pair v w) = true

-- whether a running aggregate is a mean
abbrev pub is_mean : AggregateFunction → Bool
is_mean (function.Mean a) = true
is_mean f = false
