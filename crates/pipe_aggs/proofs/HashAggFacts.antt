-- The running aggregate of a kind over values of a type: what it takes and what it gives.
use Rattle.std.proofs.Common.{◌≡◌, ◌≤◌, ◌||◌, ◌^◌, ℕ, ℤ, pos, negsuc, true, List, [], ◌∷◌, map, refl, arith}
use Rattle.pipe_columns.specs.declared.any_value.AnyValue.{AnyValue}
use Rattle.pipe_columns.specs.declared.any_value.AnyValue.TheVariants as av
use Rattle.pipe_columns.specs.declared.data_type.DataType.{DataType}
use Rattle.pipe_columns.specs.declared.data_type.DataType.TheVariants as dt
use Rattle.pipe_columns.specs.declared.place.Place.{Place}
use Rattle.pipe_columns.specs.AnyValue.{fits, fits_number, is_signed, is_unsigned}
use Rattle.pipe_running.specs.declared.min_max.Direction.{Direction}
use Rattle.pipe_running.specs.declared.min_max.Direction.TheVariants as direction
use Rattle.pipe_model.specs.Aggregate.{agg}
use Rattle.pipe_model.specs.Kind.{Kind}
use Rattle.pipe_model.specs.Kind as kind
use Rattle.pipe_running.specs.Mean.{is_short}
use Rattle.pipe_running.specs.Stands.{given_types, Suits}
use Rattle.pipe_running.specs.States.{kind_of, takes}
use Rattle.pipe_aggs.specs.HashAggs.{extreme_function, function_for, mean_function, sum_function}
use Rattle.pipe_model.specs.Groupable.{suited}
use Rattle.pipe_model.specs.Output.{agg_fields}
use Rattle.pipe_columns.specs.DataType.{is_integer}

-- ---- it is one of values of the type

sum-suits : (t : DataType) → suited kind.sum t ≡ true → Suits (sum_function t) t
sum-suits dt.Boolean s = refl
sum-suits dt.Int8 s = refl
sum-suits dt.Int16 s = refl
sum-suits dt.Int32 s = refl
sum-suits dt.Int64 s = refl
sum-suits dt.UInt8 s = refl
sum-suits dt.UInt16 s = refl
sum-suits dt.UInt32 s = refl
sum-suits dt.UInt64 s = refl
sum-suits dt.Int128 s = cc s
sum-suits dt.Date s = cc s
sum-suits dt.String s = refl

mean-suits : (t : DataType) → suited kind.mean t ≡ true → Suits (mean_function t) t
mean-suits dt.Boolean s = refl
mean-suits dt.Int8 s = refl
mean-suits dt.Int16 s = refl
mean-suits dt.Int32 s = refl
mean-suits dt.Int64 s = refl
mean-suits dt.UInt8 s = refl
mean-suits dt.UInt16 s = refl
mean-suits dt.UInt32 s = refl
mean-suits dt.UInt64 s = refl
mean-suits dt.Int128 s = cc s
mean-suits dt.Date s = cc s
mean-suits dt.String s = refl

extreme-suits : (d : Direction) (t : DataType) → is_integer t ≡ true → Suits (extreme_function d t) t
extreme-suits d dt.Boolean s = cc s
extreme-suits d dt.Int8 s = refl
extreme-suits d dt.Int16 s = refl
extreme-suits d dt.Int32 s = refl
extreme-suits d dt.Int64 s = refl
extreme-suits d dt.UInt8 s = refl
extreme-suits d dt.UInt16 s = refl
extreme-suits d dt.UInt32 s = refl
extreme-suits d dt.UInt64 s = refl
extreme-suits d dt.Int128 s = cc s
extreme-suits d dt.Date s = cc s
extreme-suits d dt.String s = cc s

pub suits-for : (k : Kind) (t : DataType) → suited k t ≡ true → Suits (function_for k t) t
suits-for kind.sum t s = sum-suits t s
suits-for kind.mean t s = mean-suits t s
suits-for kind.min t s = extreme-suits direction.Min t s
suits-for kind.max t s = extreme-suits direction.Max t s
suits-for kind.first t s = refl
suits-for kind.last t s = refl
suits-for kind.count t s = tt
suits-for kind.len t s = tt

-- ---- it takes the values of the type

signed-short : (n : ℕ) (z : ℤ) → 2 ^ n ≤ 2 ^ 63 → is_signed n z ≡ true → (is_signed 63 z || is_unsigned 64 z) ≡ true
signed-short n (pos k) le h = grind arith
signed-short n (negsuc k) le h = grind arith

unsigned-short : (n : ℕ) (z : ℤ) → 2 ^ n ≤ 2 ^ 64 → is_unsigned n z ≡ true → (is_signed 63 z || is_unsigned 64 z) ≡ true
unsigned-short n (pos k) le h = grind arith
unsigned-short n (negsuc k) le h = cc h

number-short : (t : DataType) (z : ℤ) → is_integer t ≡ true → fits_number z t ≡ true → (is_signed 63 z || is_unsigned 64 z) ≡ true
number-short dt.Boolean z i h = cc i
number-short dt.Int8 z i h = signed-short 7 z (omega arith) h
number-short dt.Int16 z i h = signed-short 15 z (omega arith) h
number-short dt.Int32 z i h = signed-short 31 z (omega arith) h
number-short dt.Int64 z i h = signed-short 63 z (omega arith) h
number-short dt.UInt8 z i h = unsigned-short 8 z (omega arith) h
number-short dt.UInt16 z i h = unsigned-short 16 z (omega arith) h
number-short dt.UInt32 z i h = unsigned-short 32 z (omega arith) h
number-short dt.UInt64 z i h = unsigned-short 64 z (omega arith) h
number-short dt.Int128 z i h = cc i
number-short dt.Date z i h = cc i
number-short dt.String z i h = cc i

-- a value of an integer type is none past 64 bits
value-short : (t : DataType) (v : AnyValue) → is_integer t ≡ true → fits v t ≡ true → is_short v ≡ true
value-short t av.Null i h = refl
value-short t (av.Boolean b) i h = refl
value-short t (av.Int n) i h = number-short t n i h
value-short t (av.Text s) i h = refl

-- nor is a Boolean
truth-short : (v : AnyValue) → fits v dt.Boolean ≡ true → is_short v ≡ true
truth-short av.Null h = refl
truth-short (av.Boolean b) h = refl
truth-short (av.Int n) h = cc h
truth-short (av.Text s) h = refl

sum-takes : (t : DataType) (v : AnyValue) → takes (sum_function t) v ≡ true
sum-takes dt.Boolean v = refl
sum-takes dt.Int8 v = refl
sum-takes dt.Int16 v = refl
sum-takes dt.Int32 v = refl
sum-takes dt.Int64 v = refl
sum-takes dt.UInt8 v = refl
sum-takes dt.UInt16 v = refl
sum-takes dt.UInt32 v = refl
sum-takes dt.UInt64 v = refl
sum-takes dt.Int128 v = refl
sum-takes dt.Date v = refl
sum-takes dt.String v = refl

mean-takes : (t : DataType) (v : AnyValue) → fits v t ≡ true → takes (mean_function t) v ≡ true
mean-takes dt.Boolean v h = truth-short v h
mean-takes dt.Int8 v h = value-short dt.Int8 v refl h
mean-takes dt.Int16 v h = value-short dt.Int16 v refl h
mean-takes dt.Int32 v h = value-short dt.Int32 v refl h
mean-takes dt.Int64 v h = value-short dt.Int64 v refl h
mean-takes dt.UInt8 v h = value-short dt.UInt8 v refl h
mean-takes dt.UInt16 v h = value-short dt.UInt16 v refl h
mean-takes dt.UInt32 v h = value-short dt.UInt32 v refl h
mean-takes dt.UInt64 v h = value-short dt.UInt64 v refl h
mean-takes dt.Int128 v h = refl
mean-takes dt.Date v h = refl
mean-takes dt.String v h = refl

extreme-takes : (d : Direction) (t : DataType) (v : AnyValue) → fits v t ≡ true → takes (extreme_function d t) v ≡ true
extreme-takes d dt.Boolean v h = refl
extreme-takes d dt.Int8 v h = h
extreme-takes d dt.Int16 v h = h
extreme-takes d dt.Int32 v h = h
extreme-takes d dt.Int64 v h = h
extreme-takes d dt.UInt8 v h = h
extreme-takes d dt.UInt16 v h = h
extreme-takes d dt.UInt32 v h = h
extreme-takes d dt.UInt64 v h = h
extreme-takes d dt.Int128 v h = refl
extreme-takes d dt.Date v h = refl
extreme-takes d dt.String v h = refl

pub takes-for : (k : Kind) (t : DataType) (v : AnyValue) → fits v t ≡ true → takes (function_for k t) v ≡ true
takes-for kind.sum t v h = sum-takes t v
takes-for kind.mean t v h = mean-takes t v h
takes-for kind.min t v h = extreme-takes direction.Min t v h
takes-for kind.max t v h = extreme-takes direction.Max t v h
takes-for kind.first t v h = refl
takes-for kind.last t v h = refl
takes-for kind.count t v h = refl
takes-for kind.len t v h = refl

-- ---- it gives the aggregate of the kind

sum-gives : (t : DataType) (entries : List (Place × AnyValue)) → agg (kind_of (sum_function t)) t entries ≡ agg kind.sum t entries
sum-gives dt.Boolean entries = refl
sum-gives dt.Int8 entries = refl
sum-gives dt.Int16 entries = refl
sum-gives dt.Int32 entries = refl
sum-gives dt.Int64 entries = refl
sum-gives dt.UInt8 entries = refl
sum-gives dt.UInt16 entries = refl
sum-gives dt.UInt32 entries = refl
sum-gives dt.UInt64 entries = refl
sum-gives dt.Int128 entries = refl
sum-gives dt.Date entries = refl
sum-gives dt.String entries = refl

mean-gives : (t : DataType) (entries : List (Place × AnyValue)) → suited kind.mean t ≡ true → agg (kind_of (mean_function t)) t entries ≡ agg kind.mean t entries
mean-gives dt.Boolean entries s = refl
mean-gives dt.Int8 entries s = refl
mean-gives dt.Int16 entries s = refl
mean-gives dt.Int32 entries s = refl
mean-gives dt.Int64 entries s = refl
mean-gives dt.UInt8 entries s = refl
mean-gives dt.UInt16 entries s = refl
mean-gives dt.UInt32 entries s = refl
mean-gives dt.UInt64 entries s = refl
mean-gives dt.Int128 entries s = cc s
mean-gives dt.Date entries s = cc s
mean-gives dt.String entries s = refl

min-gives : (t : DataType) (entries : List (Place × AnyValue)) → is_integer t ≡ true → agg (kind_of (extreme_function direction.Min t)) t entries ≡ agg kind.min t entries
min-gives dt.Boolean entries s = cc s
min-gives dt.Int8 entries s = refl
min-gives dt.Int16 entries s = refl
min-gives dt.Int32 entries s = refl
min-gives dt.Int64 entries s = refl
min-gives dt.UInt8 entries s = refl
min-gives dt.UInt16 entries s = refl
min-gives dt.UInt32 entries s = refl
min-gives dt.UInt64 entries s = refl
min-gives dt.Int128 entries s = cc s
min-gives dt.Date entries s = cc s
min-gives dt.String entries s = cc s

max-gives : (t : DataType) (entries : List (Place × AnyValue)) → is_integer t ≡ true → agg (kind_of (extreme_function direction.Max t)) t entries ≡ agg kind.max t entries
max-gives dt.Boolean entries s = cc s
max-gives dt.Int8 entries s = refl
max-gives dt.Int16 entries s = refl
max-gives dt.Int32 entries s = refl
max-gives dt.Int64 entries s = refl
max-gives dt.UInt8 entries s = refl
max-gives dt.UInt16 entries s = refl
max-gives dt.UInt32 entries s = refl
max-gives dt.UInt64 entries s = refl
max-gives dt.Int128 entries s = cc s
max-gives dt.Date entries s = cc s
max-gives dt.String entries s = cc s

pub agg-for : (k : Kind) (t : DataType) (entries : List (Place × AnyValue)) → suited k t ≡ true → agg (kind_of (function_for k t)) t entries ≡ agg k t entries
agg-for kind.sum t entries s = sum-gives t entries
agg-for kind.mean t entries s = mean-gives t entries s
agg-for kind.min t entries s = min-gives t entries s
agg-for kind.max t entries s = max-gives t entries s
agg-for kind.first t entries s = refl
agg-for kind.last t entries s = refl
agg-for kind.count t entries s = refl
agg-for kind.len t entries s = refl

-- ---- its columns are of the types of what it gives

sum-types : (name : List ℕ) (t : DataType) → map (λ f. f.dtype) (agg_fields name kind.sum t) ≡ given_types (sum_function t)
sum-types name dt.Boolean = refl
sum-types name dt.Int8 = refl
sum-types name dt.Int16 = refl
sum-types name dt.Int32 = refl
sum-types name dt.Int64 = refl
sum-types name dt.UInt8 = refl
sum-types name dt.UInt16 = refl
sum-types name dt.UInt32 = refl
sum-types name dt.UInt64 = refl
sum-types name dt.Int128 = refl
sum-types name dt.Date = refl
sum-types name dt.String = refl

mean-types : (name : List ℕ) (t : DataType) → suited kind.mean t ≡ true → map (λ f. f.dtype) (agg_fields name kind.mean t) ≡ given_types (mean_function t)
mean-types name dt.Boolean s = refl
mean-types name dt.Int8 s = refl
mean-types name dt.Int16 s = refl
mean-types name dt.Int32 s = refl
mean-types name dt.Int64 s = refl
mean-types name dt.UInt8 s = refl
mean-types name dt.UInt16 s = refl
mean-types name dt.UInt32 s = refl
mean-types name dt.UInt64 s = refl
mean-types name dt.Int128 s = cc s
mean-types name dt.Date s = cc s
mean-types name dt.String s = refl

extreme-types : (d : Direction) (t : DataType) → is_integer t ≡ true → t ∷ [] ≡ given_types (extreme_function d t)
extreme-types d dt.Boolean s = cc s
extreme-types d dt.Int8 s = refl
extreme-types d dt.Int16 s = refl
extreme-types d dt.Int32 s = refl
extreme-types d dt.Int64 s = refl
extreme-types d dt.UInt8 s = refl
extreme-types d dt.UInt16 s = refl
extreme-types d dt.UInt32 s = refl
extreme-types d dt.UInt64 s = refl
extreme-types d dt.Int128 s = cc s
extreme-types d dt.Date s = cc s
extreme-types d dt.String s = cc s

pub types-for : (name : List ℕ) (k : Kind) (t : DataType) → suited k t ≡ true → map (λ f. f.dtype) (agg_fields name k t) ≡ given_types (function_for k t)
types-for name kind.sum t s = sum-types name t
types-for name kind.mean t s = mean-types name t s
types-for name kind.min t s = extreme-types direction.Min t s
types-for name kind.max t s = extreme-types direction.Max t s
types-for name kind.first t s = refl
types-for name kind.last t s = refl
types-for name kind.count t s = refl
types-for name kind.len t s = refl
