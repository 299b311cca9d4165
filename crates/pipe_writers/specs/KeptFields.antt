-- Of the proofs alone: what a struct that keeps chunks holds of them.
use Rattle.std.specs.Prelude.{◌≡◌, ℕ, List}
use Rattle.std.specs.List.{All}
use Rattle.pipe_columns.specs.declared.data_chunk.DataChunk.{DataChunk}
use Rattle.pipe_columns.specs.declared.schema.Field.{Field}
use Rattle.pipe_columns.specs.Frame.{FitsSchema}
use Rattle.pipe_writers.specs.Kept.{chunks_kept, row_count}

-- the chunks fit, are all kept, and have so many rows
pub record AreKeptChunks (fields : List Field) (chunks : List DataChunk) (rows : ℕ) : Type 0 where
  pub fit : All (λ c. FitsSchema fields c.frame) chunks
  pub all : chunks_kept chunks ≡ chunks
  pub count : rows ≡ row_count chunks
