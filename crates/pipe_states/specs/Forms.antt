-- Of the proofs alone: what a state holds of the results of running aggregates, and how it is saved.
use Rattle.std.specs.Prelude.{◌^◌, ◌+ℤ◌, ◌*ℤ◌, ◌&&◌, ℕ, pos, Bool, true, false, not, if◌then◌else◌, List, [], ◌∷◌, ◌++◌, drop, take, Option, Some, None, option_map}
use Rattle.std.specs.List.{flat_map}
use Rattle.std.specs.Option.{option_and_then}
use Rattle.pipe_columns.specs.declared.any_value.AnyValue.{AnyValue}
use Rattle.pipe_columns.specs.declared.any_value.AnyValue.TheVariants as av
use Rattle.pipe_columns.specs.declared.data_type.DataType.{DataType}
use Rattle.pipe_columns.specs.declared.data_type.DataType.TheVariants as dt
use Rattle.pipe_columns.specs.AnyValue.{is_null}
use Rattle.pipe_columns.specs.Frame.{value_at}
use Rattle.pipe_running.specs.States.{first_type}
use Rattle.pipe_running.specs.declared.function.AggregateFunction.{AggregateFunction}
use Rattle.pipe_running.specs.declared.function.AggregateFunction.TheVariants as function
use Rattle.pipe_spill.specs.KeyTypes.{AreOfTypes}
use Rattle.pipe_states.specs.Fair.{does_sum_suit, is_count_within, is_number}
use Rattle.pipe_states.specs.StateText.{high_half, low_half}

-- whether a running aggregate is a mean, which gives a sum and a count
abbrev pub is_mean : AggregateFunction → Bool
is_mean (function.Mean a) = true
is_mean f = false

-- ---- types

-- the types of its results
abbrev pub result_types_of : AggregateFunction → List DataType
result_types_of f = if is_mean f then dt.Int128 ∷ dt.UInt32 ∷ [] else first_type f ∷ []

-- the types in which they are saved
abbrev pub saved_types_of : AggregateFunction → List DataType
saved_types_of f = if is_mean f then dt.Int64 ∷ dt.UInt64 ∷ dt.UInt32 ∷ [] else first_type f ∷ []

-- the same of some, in order
abbrev pub all_result_types : List AggregateFunction → List DataType
all_result_types fs = flat_map result_types_of fs

-- and the types in which their results are saved
abbrev pub all_saved_types : List AggregateFunction → List DataType
all_saved_types fs = flat_map saved_types_of fs

-- ---- results as they are saved

-- how many results it gives
abbrev pub width : AggregateFunction → ℕ
width f = if is_mean f then 2 else 1

-- how many values they are saved as
abbrev pub saved_width : AggregateFunction → ℕ
saved_width f = if is_mean f then 3 else 1

-- the results in front as they are saved
abbrev pub saved_of : AggregateFunction → List AnyValue → List AnyValue
saved_of f results =
    if is_mean f
    then high_half (value_at results 0) ∷ low_half (value_at results 0) ∷ value_at results 1 ∷ []
    else value_at results 0 ∷ []

-- the results of some, as they are saved
abbrev pub all_saved : List AggregateFunction → List AnyValue → List AnyValue
all_saved [] results = []
all_saved (f ∷ fs) results = saved_of f results ++ all_saved fs (drop (width f) results)

-- ---- results out of what was saved

-- a sum of its halves, of which both are null or none is
abbrev pub joined_halves : AnyValue → AnyValue → Option AnyValue
joined_halves av.Null av.Null = Some av.Null
joined_halves (av.Int high) (av.Int low) = Some (av.Int (high *ℤ pos (2 ^ 64) +ℤ low))
joined_halves high low = None

-- the results that the values in front are
abbrev pub restored : AggregateFunction → List AnyValue → Option (List AnyValue)
restored f values =
    if is_mean f
    then option_map (λ sum. sum ∷ value_at values 2 ∷ [])
    (joined_halves (value_at values 0) (value_at values 1))
    else Some (value_at values 0 ∷ [])

-- the results of some, behind those at hand
abbrev pub restored_behind :
    List AnyValue → List AggregateFunction → List AnyValue → Option (List AnyValue)
restored_behind done [] values = Some done
restored_behind done (f ∷ fs) values =
    option_and_then (λ more. restored_behind (done ++ more) fs (drop (saved_width f) values))
    (restored f values)

-- ---- results that can be

-- whether it can give a result, and the one behind it, over so many rows
abbrev pub gives : AggregateFunction → ℕ → AnyValue → AnyValue → Bool
gives (function.First a) rows v w = true
gives (function.Last a) rows v w = true
gives (function.Count a) rows v w = is_count_within rows v
gives (function.Len a) rows v w = is_number rows v
gives (function.SumU32 a) rows v w = not (is_null v)
gives (function.SumU64 a) rows v w = not (is_null v)
gives (function.SumI32 a) rows v w = not (is_null v)
gives (function.SumI64 a) rows v w = not (is_null v)
gives (function.Mean a) rows v w = is_count_within rows w && does_sum_suit v w
gives (function.Null a) rows v w = is_null v
gives (function.MinMaxU8 a) rows v w = true
gives (function.MinMaxU16 a) rows v w = true
gives (function.MinMaxU32 a) rows v w = true
gives (function.MinMaxU64 a) rows v w = true
gives (function.MinMaxI8 a) rows v w = true
gives (function.MinMaxI16 a) rows v w = true
gives (function.MinMaxI32 a) rows v w = true
gives (function.MinMaxI64 a) rows v w = true

-- whether some can give results
abbrev pub all_give : List AggregateFunction → ℕ → List AnyValue → Bool
all_give [] rows results = true
all_give (f ∷ fs) rows results =
    gives f rows (value_at results 0) (value_at results 1)
    && all_give fs rows (drop (width f) results)

-- the values begin with results of a running aggregate
abbrev pub BeginWithResults : AggregateFunction → List AnyValue → Type 0
BeginWithResults f results =
    AreOfTypes (result_types_of f)
    (take (width f) results)
