-- The chunks that a source of an input still has to give.
use Rattle.std.specs.Prelude.{◌≡◌, [], ◌∷◌, List, Option, Some, None}
use Rattle.pipe_columns.specs.declared.data_chunk.DataChunk.{DataChunk}
use Rattle.pipe_columns.specs.declared.source.SourceResult.{SourceResult}
use Rattle.pipe_columns.specs.declared.source.SourceResult.TheVariants as source
use Rattle.pipe_io.specs.Files.{Files}
use Rattle.pipe_source.specs.CsvChunks.{CsvChunks}
use Rattle.pipe_source.specs.Reader.{Gives, ReaderState, chunks_left}

-- of files that are told, these chunks are left
abbrev pub AreLeft : Option Files → ReaderState → List DataChunk → Type 0
AreLeft None r chunks = ⊥
AreLeft (Some files) r chunks = chunks ≡ (chunks_left files r).chunks

-- an answer gave the one chunk that was left first, or is finished, where none was left and the files
-- don't stop
abbrev pub GivesOne : SourceResult → CsvChunks → CsvChunks → Type 0
GivesOne source.Finished before now = Gives None before now
GivesOne (source.GotMoreData chunks) before now =
    (chunk : DataChunk) × (chunks.items ≡ chunk ∷ []) × Gives (Some chunk) before now
