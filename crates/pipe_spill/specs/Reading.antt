-- Of the proofs alone: what a reader finds in front of some bytes.
use Rattle.std.specs.Prelude.{◌≡◌, ◌≢◌, ◌==◌, ◌++◌, ◌+◌, ℕ, List, [], ◌∷◌, drop, take, if◌then◌else◌}
use Rattle.pipe_columns.specs.declared.data_type.DataType.{DataType}
use Rattle.pipe_columns.specs.declared.data_type.DataType.TheVariants as dt
use Rattle.pipe_columns.specs.declared.any_value.AnyValue.{AnyValue}
use Rattle.pipe_columns.specs.Key.{code, text_code, value_code}
use Rattle.pipe_spill.specs.FrameBytes.{row_bytes}
use Rattle.pipe_spill.specs.KeyTypes.{IsTuple, IsValue}
use Rattle.pipe_spill.specs.SpillRow.{IsRow}
use Rattle.pipe_spill.specs.declared.spill_row.SpillRow.{SpillRow}

-- how many bytes a number of a type has in its code, after the mark; 0 for a type that has none
abbrev pub width : DataType → ℕ
width dt.Boolean = 0
width dt.Int8 = 1
width dt.Int16 = 2
width dt.Int32 = 4
width dt.Int64 = 8
width dt.UInt8 = 1
width dt.UInt16 = 2
width dt.UInt32 = 4
width dt.UInt64 = 8
width dt.Int128 = 16
width dt.Date = 4
width dt.String = 0

-- a text with each 0 written 0 1, as it stands in its code
abbrev pub escaped : List ℕ → List ℕ
escaped [] = []
escaped (b ∷ bs) = if b == 0 then 0 ∷ 1 ∷ escaped bs else b ∷ escaped bs

-- the bytes begin with the code of a text, of which so many bytes stand before its end
pub record BeginsText (bytes : List ℕ) (end : ℕ) : Type 0 where
  pub text : List ℕ
  pub before : escaped text ≡ take end bytes
  pub front : text_code text ++ drop (end + 2) bytes ≡ bytes

-- the bytes begin with the code of no text
abbrev pub BeginsNoText : List ℕ → Type 0
BeginsNoText bytes = (text rest : List ℕ) → text_code text ++ rest ≢ bytes

-- the bytes begin with the code of a value of the type, and these follow
pub record BeginsValue (t : DataType) (bytes rest : List ℕ) : Type 0 where
  pub value : AnyValue
  pub is_value : IsValue t value
  pub front : value_code t value ++ rest ≡ bytes

-- the bytes begin with the code of no tuple of these types
abbrev pub BeginsNoTuple : List DataType → List ℕ → Type 0
BeginsNoTuple types bytes =
    (values : List AnyValue) (rest : List ℕ) → IsTuple types values
    → code types values ++ rest ≢ bytes

-- the bytes begin with no row of these types
abbrev pub BeginsNoRow : List DataType → List DataType → List ℕ → Type 0
BeginsNoRow key_types input_types bytes =
    (r : SpillRow) (rest : List ℕ) → IsRow key_types input_types r
    → row_bytes input_types r ++ rest ≢ bytes
