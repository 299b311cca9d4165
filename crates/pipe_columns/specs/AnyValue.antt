-- Which values a type has, and the order of values.
use Rattle.std.specs.Prelude.{◌^◌, ℕ, ℤ, pos, negsuc, Bool, true, false, nat_lt, ⊤, IsUtf8}
use Rattle.std.specs.declared.cmp.Ordering.{Ordering}
use Rattle.std.specs.Ordering.{nat_cmp, int_cmp, bool_cmp}
use Rattle.std.specs.Cmp.Lexicographic.{slice_cmp}
use Rattle.pipe_columns.specs.declared.data_type.DataType.{DataType}
use Rattle.pipe_columns.specs.declared.data_type.DataType.TheVariants as dt
use Rattle.pipe_columns.specs.declared.any_value.AnyValue.{AnyValue}
use Rattle.pipe_columns.specs.declared.any_value.AnyValue.TheVariants as av
use Rattle.pipe_columns.specs.DataType.{is_boolean, is_string}

-- from -2^n up to below 2^n
abbrev pub is_signed : ℕ → ℤ → Bool
is_signed n (pos k) = nat_lt k (2 ^ n)
is_signed n (negsuc k) = nat_lt k (2 ^ n)

-- from 0 up to below 2^n
abbrev pub is_unsigned : ℕ → ℤ → Bool
is_unsigned n (pos k) = nat_lt k (2 ^ n)
is_unsigned n (negsuc k) = false

-- whether a number is in the range of a type
abbrev pub fits_number : ℤ → DataType → Bool
fits_number n dt.Boolean = false
fits_number n dt.Int8 = is_signed 7 n
fits_number n dt.Int16 = is_signed 15 n
fits_number n dt.Int32 = is_signed 31 n
fits_number n dt.Int64 = is_signed 63 n
fits_number n dt.UInt8 = is_unsigned 8 n
fits_number n dt.UInt16 = is_unsigned 16 n
fits_number n dt.UInt32 = is_unsigned 32 n
fits_number n dt.UInt64 = is_unsigned 64 n
fits_number n dt.Int128 = is_signed 127 n
fits_number n dt.Date = is_signed 31 n
fits_number n dt.String = false

-- whether a column of a type may hold a value
abbrev pub fits : AnyValue → DataType → Bool
fits av.Null t = true
fits (av.Boolean b) t = is_boolean t
fits (av.Int n) t = fits_number n t
fits (av.Text s) t = is_string t

-- a text is in UTF-8, as each text of a program is
abbrev pub HasUtf8 : AnyValue → Type 0
HasUtf8 av.Null = ⊤
HasUtf8 (av.Boolean b) = ⊤
HasUtf8 (av.Int n) = ⊤
HasUtf8 (av.Text s) = IsUtf8 s

-- whether a value is the null
abbrev pub is_null : AnyValue → Bool
is_null av.Null = true
is_null (av.Boolean b) = false
is_null (av.Int n) = false
is_null (av.Text s) = false

-- null is least; then Booleans, numbers and texts
abbrev pub rank : AnyValue → ℕ
rank av.Null = 0
rank (av.Boolean b) = 1
rank (av.Int n) = 2
rank (av.Text s) = 3

-- the order of values
abbrev pub value_cmp : AnyValue → AnyValue → Ordering
value_cmp (av.Boolean a) (av.Boolean b) = bool_cmp a b
value_cmp (av.Int a) (av.Int b) = int_cmp a b
value_cmp (av.Text a) (av.Text b) = slice_cmp nat_cmp a b
value_cmp a b = nat_cmp (rank a) (rank b)
