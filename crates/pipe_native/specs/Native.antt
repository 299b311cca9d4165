-- The number types that running aggregates keep numbers in.
use Rattle.std.specs.Prelude.{◌≡◌, ℕ, ℤ, pos, ◌+ℤ◌, ◌^◌, true, false}
use Rattle.std.specs.Int.{int_rem_euclid, int_wrap, w8, w16, w32, w64, w128}
use Rattle.std.specs.Int.RustNames.{unsigned_abs}
use Rattle.pipe_columns.specs.declared.data_type.DataType.{DataType}
use Rattle.pipe_columns.specs.declared.data_type.DataType.TheVariants as dt
use Rattle.pipe_columns.specs.AnyValue.{fits_number}
use Rattle.pipe_columns.specs.DataType.{is_boolean, is_string, wrapped}

-- a number type: the number that a value of it is, a number wrapped into it, and its name
pub record Native (K : Type 0) : Type 0 where
  pub number : K → ℤ
  pub wrap : ℤ → K
  pub dtype : DataType

-- a number wrapped into so many bits without a sign
abbrev pub remainder : ℕ → ℤ → ℕ
remainder bits n = unsigned_abs (int_rem_euclid n (pos (2 ^ bits)))

-- numbers of 8 bits with a sign
abbrev pub native_i8 : Native ℤ
native_i8 = record { number = λ n. n; wrap = int_wrap w8; dtype = dt.Int8 }

-- numbers of 16 bits with a sign
abbrev pub native_i16 : Native ℤ
native_i16 = record { number = λ n. n; wrap = int_wrap w16; dtype = dt.Int16 }

-- numbers of 32 bits with a sign
abbrev pub native_i32 : Native ℤ
native_i32 = record { number = λ n. n; wrap = int_wrap w32; dtype = dt.Int32 }

-- numbers of 64 bits with a sign
abbrev pub native_i64 : Native ℤ
native_i64 = record { number = λ n. n; wrap = int_wrap w64; dtype = dt.Int64 }

-- numbers of 128 bits with a sign
abbrev pub native_i128 : Native ℤ
native_i128 = record { number = λ n. n; wrap = int_wrap w128; dtype = dt.Int128 }

-- numbers of 8 bits without a sign
abbrev pub native_u8 : Native ℕ
native_u8 = record { number = pos; wrap = remainder 8; dtype = dt.UInt8 }

-- numbers of 16 bits without a sign
abbrev pub native_u16 : Native ℕ
native_u16 = record { number = pos; wrap = remainder 16; dtype = dt.UInt16 }

-- numbers of 32 bits without a sign
abbrev pub native_u32 : Native ℕ
native_u32 = record { number = pos; wrap = remainder 32; dtype = dt.UInt32 }

-- numbers of 64 bits without a sign
abbrev pub native_u64 : Native ℕ
native_u64 = record { number = pos; wrap = remainder 64; dtype = dt.UInt64 }

-- to wrap on the way to a sum changes nothing, and a number that fits the type is kept
pub record IsNative {K : Type 0} (k : Native K) : Type 0 where
  pub adds : (m n : ℤ) → k.wrap (m +ℤ k.number (k.wrap n)) ≡ k.wrap (m +ℤ n)
  pub gives : (n : ℤ) → k.number (k.wrap n) ≡ wrapped k.dtype n
  pub fits : (n : ℤ) → fits_number (k.number (k.wrap n)) k.dtype ≡ true
  pub keeps : (n : ℤ) → fits_number n k.dtype ≡ true → k.number (k.wrap n) ≡ n
  pub no_boolean : is_boolean k.dtype ≡ false
  pub no_string : is_string k.dtype ≡ false
