-- Of the proofs alone: values that are no texts, in front of bytes.
use Rattle.std.specs.Prelude.{◌≡◌, ◌^◌, ◌-ℤ◌, ◌++◌, ℕ, ℤ, zero, suc, pos, List, [], ◌∷◌, take}
use Rattle.pipe_columns.specs.declared.data_type.DataType.{DataType}
use Rattle.pipe_columns.specs.declared.data_type.DataType.TheVariants as dt
use Rattle.pipe_columns.specs.declared.any_value.AnyValue.{AnyValue}
use Rattle.pipe_columns.specs.Key.{code}
use Rattle.pipe_spill.specs.KeyTypes.{IsTuple}
use Rattle.pipe_waiting.specs.ReadRows.{number_of}

-- how many bytes a value of a type has in its code behind the mark; 0 for a text
abbrev pub body_size : DataType → ℕ
body_size dt.Boolean = 1
body_size dt.Int8 = 1
body_size dt.Int16 = 2
body_size dt.Int32 = 4
body_size dt.Int64 = 8
body_size dt.UInt8 = 1
body_size dt.UInt16 = 2
body_size dt.UInt32 = 4
body_size dt.UInt64 = 8
body_size dt.Int128 = 16
body_size dt.Date = 4
body_size dt.String = 0

-- how many bytes the value of a type takes that bytes begin with: a null its mark alone
abbrev pub code_size : DataType → List ℕ → ℕ
code_size t [] = 1
code_size t (zero ∷ bytes) = 1
code_size t (suc mark ∷ bytes) = suc (body_size t)

-- the number of a type that bytes begin with, counted from the least one of a signed type
abbrev pub read_number : DataType → List ℕ → ℤ
read_number dt.Boolean bytes = pos 0
read_number dt.Int8 bytes = pos (number_of (take 1 bytes)) -ℤ pos (2 ^ 7)
read_number dt.Int16 bytes = pos (number_of (take 2 bytes)) -ℤ pos (2 ^ 15)
read_number dt.Int32 bytes = pos (number_of (take 4 bytes)) -ℤ pos (2 ^ 31)
read_number dt.Int64 bytes = pos (number_of (take 8 bytes)) -ℤ pos (2 ^ 63)
read_number dt.UInt8 bytes = pos (number_of (take 1 bytes))
read_number dt.UInt16 bytes = pos (number_of (take 2 bytes))
read_number dt.UInt32 bytes = pos (number_of (take 4 bytes))
read_number dt.UInt64 bytes = pos (number_of (take 8 bytes))
read_number dt.Int128 bytes = pos (number_of (take 16 bytes)) -ℤ pos (2 ^ 127)
read_number dt.Date bytes = pos (number_of (take 4 bytes)) -ℤ pos (2 ^ 31)
read_number dt.String bytes = pos 0

-- bytes begin with the code of a tuple of these types, and these follow
pub record BeginsTuple (types : List DataType) (bytes rest : List ℕ) : Type 0 where
  pub values : List AnyValue
  pub tuple : IsTuple types values
  pub front : code types values ++ rest ≡ bytes

-- bytes begin with the code of a tuple of these types
abbrev pub BeginsSome : List DataType → List ℕ → Type 0
BeginsSome types bytes = (rest : List ℕ) × BeginsTuple types bytes rest
