-- Of the proofs alone: chunks that are read some at a time of what a reader has left.
use Rattle.std.specs.Prelude.{◌≡◌, ◌+◌, ◌&&◌, ◌^◌, nat_lt, Bool, List, length, Option, Some, IfSome, if◌then◌else◌}
use Rattle.pipe_columns.specs.declared.data_chunk.DataChunk.{DataChunk}
use Rattle.pipe_csv.specs.declared.csv_error.CsvError.{CsvError}
use Rattle.pipe_io.specs.Files.{Files}
use Rattle.pipe_model.specs.Rows.{total_height}
use Rattle.pipe_source.specs.CsvChunks.{chunks_then, CsvChunks, no_more, Stop, too_large}
use Rattle.pipe_source.specs.Reader.{chunks_left, ReaderState}
use Rattle.tool_run.specs.declared.counted.Counted.{Counted}
use Rattle.tool_run.specs.Reading.{stop_of}

-- whether chunks behind others, and their rows, have numbers of 32 bits
abbrev pub are_few_behind : Counted → List DataChunk → Bool
are_few_behind before chunks =
    nat_lt (before.rows + total_height chunks) (2 ^ 32)
    && nat_lt (before.chunks + length chunks) (2 ^ 32)

-- where files are told, these chunks were taken of what was left first
abbrev pub WereTaken : Option Files → ReaderState → List DataChunk → ReaderState → Type 0
WereTaken told first taken now =
    IfSome told (λ files. chunks_left files first ≡ chunks_then taken (chunks_left files now))

-- where files are told, nothing is left
abbrev pub HasNoneLeft : Option Files → ReaderState → Type 0
HasNoneLeft told now = IfSome told (λ files. chunks_left files now ≡ no_more)

-- why the reading ends early behind others, if it does: too many come before where the files stop
abbrev pub end_behind : Counted → CsvChunks → Option Stop
end_behind before read =
    if are_few_behind before read.chunks then read.stop else Some too_large

-- an error that tells a stop tells why the reading of what was left ends, behind others
abbrev pub EndsWith : Counted → CsvChunks → CsvError → Type 0
EndsWith before left e = IfSome (stop_of e) (λ stop. end_behind before left ≡ Some stop)

-- where files are told, an error does so
abbrev pub EndsBehind : Counted → Option Files → ReaderState → CsvError → Type 0
EndsBehind before told first e =
    IfSome told (λ files. EndsWith before (chunks_left files first) e)
