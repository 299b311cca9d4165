-- What is said of the types of values: which are integers, how numbers wrap, and the types of sums.
use Rattle.std.specs.Prelude.{◌^◌, ◌==◌, ◌||◌, ℕ, ℤ, pos, Bool, true, false, not}
use Rattle.std.specs.Int.{int_rem_euclid, int_wrap, w8, w16, w32, w64, w128}
use Rattle.pipe_columns.specs.declared.data_type.DataType.{DataType}
use Rattle.pipe_columns.specs.declared.data_type.DataType.TheVariants as dt

-- the type of truths
abbrev pub is_boolean : DataType → Bool
is_boolean dt.Boolean = true
is_boolean dt.Int8 = false
is_boolean dt.Int16 = false
is_boolean dt.Int32 = false
is_boolean dt.Int64 = false
is_boolean dt.UInt8 = false
is_boolean dt.UInt16 = false
is_boolean dt.UInt32 = false
is_boolean dt.UInt64 = false
is_boolean dt.Int128 = false
is_boolean dt.Date = false
is_boolean dt.String = false

-- the type of texts
abbrev pub is_string : DataType → Bool
is_string dt.Boolean = false
is_string dt.Int8 = false
is_string dt.Int16 = false
is_string dt.Int32 = false
is_string dt.Int64 = false
is_string dt.UInt8 = false
is_string dt.UInt16 = false
is_string dt.UInt32 = false
is_string dt.UInt64 = false
is_string dt.Int128 = false
is_string dt.Date = false
is_string dt.String = true

-- the types in their order
abbrev pub type_number : DataType → ℕ
type_number dt.Boolean = 0
type_number dt.Int8 = 1
type_number dt.Int16 = 2
type_number dt.Int32 = 3
type_number dt.Int64 = 4
type_number dt.UInt8 = 5
type_number dt.UInt16 = 6
type_number dt.UInt32 = 7
type_number dt.UInt64 = 8
type_number dt.Int128 = 9
type_number dt.Date = 10
type_number dt.String = 11

-- whether two types are one
abbrev pub same_type : DataType → DataType → Bool
same_type a b = type_number a == type_number b

-- the types whose values are whole numbers of up to 64 bits
abbrev pub is_integer : DataType → Bool
is_integer dt.Boolean = false
is_integer dt.Int8 = true
is_integer dt.Int16 = true
is_integer dt.Int32 = true
is_integer dt.Int64 = true
is_integer dt.UInt8 = true
is_integer dt.UInt16 = true
is_integer dt.UInt32 = true
is_integer dt.UInt64 = true
is_integer dt.Int128 = false
is_integer dt.Date = false
is_integer dt.String = false

-- the type of days
abbrev pub is_date : DataType → Bool
is_date t = same_type t dt.Date

-- the types of inputs: all but Int128
abbrev pub is_input : DataType → Bool
is_input t = not (same_type t dt.Int128)

-- the types that a cast takes and gives
abbrev pub is_castable : DataType → Bool
is_castable t = is_integer t || is_boolean t || is_date t

-- a number wrapped into a number type
abbrev pub wrapped : DataType → ℤ → ℤ
wrapped dt.Boolean n = n
wrapped dt.Int8 n = int_wrap w8 n
wrapped dt.Int16 n = int_wrap w16 n
wrapped dt.Int32 n = int_wrap w32 n
wrapped dt.Int64 n = int_wrap w64 n
wrapped dt.UInt8 n = int_rem_euclid n (pos (2 ^ 8))
wrapped dt.UInt16 n = int_rem_euclid n (pos (2 ^ 16))
wrapped dt.UInt32 n = int_rem_euclid n (pos (2 ^ 32))
wrapped dt.UInt64 n = int_rem_euclid n (pos (2 ^ 64))
wrapped dt.Int128 n = int_wrap w128 n
wrapped dt.Date n = int_wrap w32 n
wrapped dt.String n = n

-- the type of the sum of values of a type
abbrev pub sum_type : DataType → DataType
sum_type dt.Boolean = dt.UInt32
sum_type dt.Int8 = dt.Int64
sum_type dt.Int16 = dt.Int64
sum_type dt.Int32 = dt.Int32
sum_type dt.Int64 = dt.Int64
sum_type dt.UInt8 = dt.Int64
sum_type dt.UInt16 = dt.Int64
sum_type dt.UInt32 = dt.UInt32
sum_type dt.UInt64 = dt.UInt64
sum_type dt.Int128 = dt.Int128
sum_type dt.Date = dt.Date
sum_type dt.String = dt.String

-- the types whose values have a mean
abbrev pub has_mean : DataType → Bool
has_mean dt.Boolean = true
has_mean dt.Int8 = true
has_mean dt.Int16 = true
has_mean dt.Int32 = true
has_mean dt.Int64 = true
has_mean dt.UInt8 = true
has_mean dt.UInt16 = true
has_mean dt.UInt32 = true
has_mean dt.UInt64 = true
has_mean dt.Int128 = false
has_mean dt.Date = false
has_mean dt.String = false
