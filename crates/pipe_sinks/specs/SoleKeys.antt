-- Queries of one key, and the keys of a chunk's rows.
use Rattle.std.specs.Prelude.{◌≡◌, ◌<◌, ℕ, Bool, true, false, List, [], ◌∷◌, length, Option, Some, None}
use Rattle.std.specs.Borrow.{Bor}
use Rattle.pipe_columns.specs.declared.any_value.AnyValue.{AnyValue}
use Rattle.pipe_columns.specs.declared.data_chunk.DataChunk.{DataChunk}
use Rattle.pipe_columns.specs.declared.data_type.DataType.{DataType}
use Rattle.pipe_columns.specs.declared.data_type.DataType.TheVariants as dt
use Rattle.pipe_columns.specs.Frame.{value_at}
use Rattle.pipe_columns.specs.Row.{Row}
use Rattle.pipe_inputs.specs.ChunkRows.{row_at}
use Rattle.pipe_model.specs.Query.{QueryTree}
use Rattle.pipe_model.specs.Rows.{chunk_rows}

-- whether a type has numbers of more than 64 bits
abbrev pub is_wide : DataType → Bool
is_wide dt.Int128 = true
is_wide t = false

-- one key, of numbers of 64 bits at most or of texts
pub record IsSole (types : List DataType) : Type 0 where
  pub dtype : DataType
  pub is : types ≡ dtype ∷ []
  pub narrow : is_wide dtype ≡ false

-- values are the first ones of the keys of rows
abbrev pub AreKeysOf : List Row → List AnyValue → Type 0
AreKeysOf rows keys =
    (n : ℕ) → n < length rows → value_at keys n ≡ value_at (row_at rows n).key 0

-- the values of the keys of a chunk, if they are given
abbrev pub AreGivenKeys : QueryTree → DataChunk → Option (Bor (List AnyValue)) → Type 0
AreGivenKeys q c None = Unit {0}
AreGivenKeys q c (Some keys) = AreKeysOf (chunk_rows q c.chunk_index c.frame) keys.now
