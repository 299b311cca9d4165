-- Of the proofs alone: the numbers that 128 bits hold, as digits write them.
use Rattle.std.specs.Prelude.{ℕ, ◌^◌, ℤ, List, Option, Some, None, option_and_then, if◌then◌else◌, nat_le}
use Rattle.pipe_columns.specs.declared.data_type.DataType.TheVariants as dt
use Rattle.pipe_columns.specs.declared.data_type.DataType.{DataType}
use Rattle.pipe_columns.specs.declared.any_value.AnyValue.{AnyValue}
use Rattle.pipe_columns.specs.declared.any_value.AnyValue.TheVariants as av
use Rattle.pipe_columns.specs.AnyValue.{fits_number}
use Rattle.pipe_csv.specs.Fields.{read_digits, read_number}

-- a number that isn't greater than 128 bits hold with a sign
abbrev pub within_magnitude : ℕ → Option ℕ
within_magnitude n = if nat_le n (2 ^ 127) then Some n else None

-- digits whose number isn't greater than 128 bits hold with a sign
abbrev pub read_magnitude : List ℕ → Option ℕ
read_magnitude digits = option_and_then within_magnitude (read_digits digits)

-- a number in the range of 128 bits
abbrev pub within_int128 : ℤ → Option ℤ
within_int128 n = if fits_number n dt.Int128 then Some n else None

-- a number of 128 bits, as a text writes it
abbrev pub read_int128 : List ℕ → Option ℤ
read_int128 text = option_and_then within_int128 (read_number text)

-- a number as a value of a type, where it is in its range
abbrev pub narrowed : DataType → ℤ → Option AnyValue
narrowed t n = if fits_number n t then Some (av.Int n) else None
