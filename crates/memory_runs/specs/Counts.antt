-- Of the proofs alone: chunks that were taken of what a reader had left, and counted.
use Rattle.std.specs.Prelude.{◌≡◌, ◌+◌, ◌<◌, ◌^◌, ℕ, List, length, Option, IfSome}
use Rattle.pipe_columns.specs.declared.data_chunk.DataChunk.{DataChunk}
use Rattle.pipe_io.specs.Files.{Files}
use Rattle.pipe_model.specs.Rows.{total_height}
use Rattle.pipe_source.specs.CsvChunks.{chunks_then}
use Rattle.pipe_source.specs.Reader.{chunks_left, ReaderState}
use Rattle.memory_runs.specs.declared.counted.Counted.{Counted}

-- so many chunks of so many rows were taken, both numbers of 32 bits
pub record AreCounted (n : Counted) (taken : List DataChunk) : Type 0 where
  pub chunks : n.chunks ≡ length taken
  pub rows : n.rows ≡ total_height taken
  pub few_chunks : n.chunks < 2 ^ 32
  pub few_rows : n.rows < 2 ^ 32

-- there is room for one chunk more behind so many
pub record HasRoom (n : Counted) (c : DataChunk) : Type 0 where
  pub rows : n.rows + c.frame.height < 2 ^ 32
  pub chunks : n.chunks + 1 < 2 ^ 32

-- where files are told, these chunks were taken of what was left first
abbrev pub WereTaken : Option Files → ReaderState → List DataChunk → ReaderState → Type 0
WereTaken told first taken now =
    IfSome told (λ files. chunks_left files first ≡ chunks_then taken (chunks_left files now))
