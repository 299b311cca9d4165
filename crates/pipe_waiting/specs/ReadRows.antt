-- Rows read out of their bytes, as they stand in a frame.
use Rattle.std.specs.Prelude.{◌+◌, ◌-◌, ◌*◌, ◌^◌, ◌==◌, ◌-ℤ◌, ℕ, zero, suc, pos, List, [], ◌∷◌, take, drop, fold}
use Rattle.pipe_columns.specs.declared.data_type.DataType.{DataType}
use Rattle.pipe_columns.specs.declared.data_type.DataType.TheVariants as dt
use Rattle.pipe_columns.specs.declared.any_value.AnyValue.{AnyValue}
use Rattle.pipe_columns.specs.declared.any_value.AnyValue.TheVariants as av
use Rattle.pipe_spill.specs.declared.spill_row.SpillRow.{SpillRow}

-- the number that bytes are, most significant first
abbrev pub number_of : List ℕ → ℕ
number_of bytes = fold (λ n b. n * 256 + b) 0 bytes

-- the number of so many bytes that bytes begin with, and what follows
abbrev pub read_unsigned : ℕ → List ℕ → AnyValue × List ℕ
read_unsigned width bytes = (av.Int (pos (number_of (take width bytes))), drop width bytes)

-- the same of a number that is counted from the least of its type
abbrev pub read_signed : ℕ → List ℕ → AnyValue × List ℕ
read_signed width bytes = (
  av.Int (pos (number_of (take width bytes)) -ℤ pos (2 ^ (8 * width - 1))),
  drop width bytes,
)

-- a byte in front of a text, and what follows the text
abbrev pub put_before : ℕ → List ℕ × List ℕ → List ℕ × List ℕ
put_before b read = (b ∷ read.0, read.1)

-- the text that bytes begin with, in which 0 1 stands for 0, and what follows the 0 0 at its end
abbrev pub read_text : List ℕ → List ℕ × List ℕ
read_text [] = ([], [])
read_text (zero ∷ []) = ([], [])
read_text (zero ∷ zero ∷ bytes) = ([], bytes)
read_text (zero ∷ suc b ∷ bytes) = put_before 0 (read_text bytes)
read_text (suc b ∷ bytes) = put_before (suc b) (read_text bytes)

-- the value of a type that isn't null that bytes begin with, and what follows
abbrev pub read_body : DataType → List ℕ → AnyValue × List ℕ
read_body dt.Boolean bytes = (av.Boolean (number_of (take 1 bytes) == 1), drop 1 bytes)
read_body dt.Int8 bytes = read_signed 1 bytes
read_body dt.Int16 bytes = read_signed 2 bytes
read_body dt.Int32 bytes = read_signed 4 bytes
read_body dt.Int64 bytes = read_signed 8 bytes
read_body dt.UInt8 bytes = read_unsigned 1 bytes
read_body dt.UInt16 bytes = read_unsigned 2 bytes
read_body dt.UInt32 bytes = read_unsigned 4 bytes
read_body dt.UInt64 bytes = read_unsigned 8 bytes
read_body dt.Int128 bytes = read_signed 16 bytes
read_body dt.Date bytes = read_signed 4 bytes
read_body dt.String bytes = (av.Text (read_text bytes).0, (read_text bytes).1)

-- the value of a type that bytes begin with, null where their first is 0, and what follows
abbrev pub read_value : DataType → List ℕ → AnyValue × List ℕ
read_value t [] = (av.Null, [])
read_value t (zero ∷ bytes) = (av.Null, bytes)
read_value t (suc mark ∷ bytes) = read_body t bytes

-- a value in front of others, and what follows them
abbrev pub value_before : AnyValue → List AnyValue × List ℕ → List AnyValue × List ℕ
value_before v read = (v ∷ read.0, read.1)

-- the values of types that bytes begin with, and what follows
abbrev pub read_values : List DataType → List ℕ → List AnyValue × List ℕ
read_values [] bytes = ([], bytes)
read_values (t ∷ types) bytes =
    value_before (read_value t bytes).0 (read_values types (read_value t bytes).1)

-- the row of a place, of a key of so many bytes that the bytes begin with, and of the inputs behind
abbrev pub read_parts : List DataType → ℕ → ℕ → ℕ → List ℕ → SpillRow × List ℕ
read_parts types chunk row size bytes =
    let inputs = read_values types (drop size bytes) in (
      record {
        place = record { chunk = chunk; row = row };
        key = take size bytes;
        values = inputs.0;
      },
      inputs.1,
    )

-- the row that bytes begin with, and what follows
abbrev pub read_row : List DataType → List ℕ → SpillRow × List ℕ
read_row types bytes = read_parts types
    (number_of (take 4 bytes)) (number_of (take 4 (drop 4 bytes)))
    (number_of (take 8 (drop 8 bytes))) (drop 16 bytes)

-- so many rows that bytes begin with
abbrev pub read_rows : List DataType → ℕ → List ℕ → List SpillRow
read_rows types zero bytes = []
read_rows types (suc n) bytes =
    (read_row types bytes).0 ∷ read_rows types n (read_row types bytes).1
