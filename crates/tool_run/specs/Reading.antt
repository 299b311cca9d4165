-- Chunks that are read of all that a reader has left, and why their reading ends early.
use Rattle.std.specs.Prelude.{◌≡◌, ◌&&◌, ◌^◌, nat_lt, Bool, List, length, Option, Some, None, IfSome, if◌then◌else◌}
use Rattle.pipe_columns.specs.declared.data_chunk.DataChunk.{DataChunk}
use Rattle.pipe_csv.specs.CsvRows.{field, header, missing, width}
use Rattle.pipe_csv.specs.declared.csv_error.CsvError.{CsvError}
use Rattle.pipe_csv.specs.declared.csv_error.CsvError.TheVariants as csv_error
use Rattle.pipe_io.specs.Files.{Files}
use Rattle.pipe_model.specs.Rows.{total_height}
use Rattle.pipe_plan.specs.Rounds.{IsFront}
use Rattle.pipe_source.specs.CsvChunks.{CsvChunks, misfit, Stop, too_large}
use Rattle.pipe_source.specs.Reader.{chunks_left, ReaderState}

-- whether chunks and their rows have numbers of 32 bits
abbrev pub are_few : List DataChunk → Bool
are_few chunks = nat_lt (total_height chunks) (2 ^ 32) && nat_lt (length chunks) (2 ^ 32)

-- where files are told, these chunks are all that was left, without a stop
abbrev pub AreAll : Option Files → ReaderState → List DataChunk → Type 0
AreAll told first taken =
    IfSome told (λ files. chunks_left files first ≡ record { chunks = taken; stop = None })

-- where files are told, these chunks are the first of those that were left
abbrev pub ComeFirst : Option Files → ReaderState → List DataChunk → Type 0
ComeFirst told first taken =
    IfSome told (λ files. IsFront taken (chunks_left files first).chunks)

-- why the reading of chunks ends early, if it does: too many come before where the files stop
abbrev pub end_of : CsvChunks → Option Stop
end_of read = if are_few read.chunks then read.stop else Some too_large

-- the stop that an error of reading tells, if it tells one
abbrev pub stop_of : CsvError → Option Stop
stop_of (csv_error.Missing file) = Some (misfit (missing file))
stop_of (csv_error.Header file) = Some (misfit (header file))
stop_of (csv_error.Width file row) = Some (misfit (width file row))
stop_of (csv_error.Field file row column) = Some (misfit (field file row column))
stop_of csv_error.TooLarge = Some too_large
stop_of csv_error.Input = None
stop_of csv_error.Memory = None

-- where files are told, an error that tells a stop tells why the reading of what was left ends
abbrev pub EndsBy : Option Files → ReaderState → CsvError → Type 0
EndsBy told first e =
    IfSome told (λ files. IfSome (stop_of e) (λ stop. end_of (chunks_left files first) ≡ Some stop))
