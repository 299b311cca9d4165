-- What a source gave is the first of what was left.
use Rattle.std.proofs.Common.{◌≡◌, ◌∙◌, [], ◌∷◌, Option, Some, None, Vec, Global, refl, ap}
use Rattle.std.specs.Option.{IfSome}
use Rattle.pipe_columns.specs.declared.data_chunk.DataChunk.{DataChunk}
use Rattle.pipe_columns.specs.declared.source.SourceResult.TheVariants as source
use Rattle.pipe_columns.specs.Chunks.{GaveFirst}
use Rattle.pipe_io.specs.Files.{Files}
use Rattle.pipe_source.specs.CsvChunks.{CsvChunks}
use Rattle.pipe_source.specs.Reader.{Gives, ReaderState, chunks_left}
use Rattle.pipe_source.specs.Source.{AreLeft}

-- nothing was left
pub gave-none : (told : Option Files) (old new : ReaderState) → IfSome told (λ files. Gives None (chunks_left files old) (chunks_left files new)) → GaveFirst source.Finished (AreLeft told old) (AreLeft told new)
gave-none None old new h = λ chunks e. absurd e
gave-none (Some files) old new h = λ chunks e. e ∙ ap (λ (r : CsvChunks). r.chunks) h.0

-- the first chunk was given, and the others are left
pub gave-one : (told : Option Files) (old new : ReaderState) (chunk : DataChunk) (more : Vec DataChunk Global) → more.items ≡ chunk ∷ [] → IfSome told (λ files. Gives (Some chunk) (chunks_left files old) (chunks_left files new)) → GaveFirst (source.GotMoreData more) (AreLeft told old) (AreLeft told new)
gave-one None old new chunk more g h = λ chunks e. absurd e
gave-one (Some files) old new chunk more g h = λ chunks e.
    let all : chunks ≡ chunk ∷ (chunks_left files new).chunks = e ∙ ap (λ (r : CsvChunks). r.chunks) h in
    rw (g, all) (record { first = refl; others = refl })
