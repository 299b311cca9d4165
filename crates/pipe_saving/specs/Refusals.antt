-- Why chunks are not saved.
use Rattle.std.specs.Prelude.{◌≡◌, ◌+◌, ◌<◌, ◌≤◌, ◌^◌, ℕ, List, All, length, take, slice_get, Some, ◌⊎◌}
use Rattle.pipe_columns.specs.declared.data_chunk.DataChunk.{DataChunk}
use Rattle.pipe_columns.specs.declared.schema.Field.{Field}
use Rattle.pipe_columns.specs.Frame.{FitsSchema}
use Rattle.pipe_model.specs.Rows.{total_height}

-- each chunk has the columns of a schema
abbrev pub AllFit : List Field → List DataChunk → Type 0
AllFit fields chunks = All (λ c. FitsSchema fields c.frame) chunks

-- the chunk at a position is the first that has other columns than a schema
pub record IsFirstMisfit (fields : List Field) (chunks : List DataChunk) (i : ℕ) : Type 0 where
  pub chunk : DataChunk
  pub at : slice_get chunks i ≡ Some chunk
  pub before : AllFit fields (take i chunks)
  pub misfit : ¬ (FitsSchema fields chunk.frame)

-- from a first position on, chunks have positions that a range can end behind, and fewer than 2^32
-- rows
pub record AreFew (first : ℕ) (chunks : List DataChunk) : Type 0 where
  pub rows : total_height chunks < 2 ^ 32
  pub positions : first + length chunks < 2 ^ 32

-- they have 2^32 rows or more, or no such positions
abbrev pub AreMany : ℕ → List DataChunk → Type 0
AreMany first chunks = (2 ^ 32 ≤ total_height chunks) ⊎ (2 ^ 32 ≤ first + length chunks)

-- each fits, and they are few
pub record CanBeSaved (fields : List Field) (first : ℕ) (chunks : List DataChunk) : Type 0 where
  pub fit : AllFit fields chunks
  pub few : AreFew first chunks

-- each fits, and they are too many
pub record AreTooLarge (fields : List Field) (first : ℕ) (chunks : List DataChunk)
    : Type 0 where
  pub fit : AllFit fields chunks
  pub many : AreMany first chunks
