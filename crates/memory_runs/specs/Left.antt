-- Of the proofs alone: the answer over all chunks that a reader has left, or why there is none.
use Rattle.std.specs.Prelude.{◌≡◌, true, List, Option, Some, None, IfSome, ⊤}
use Rattle.pipe_columns.specs.declared.data_chunk.DataChunk.{DataChunk}
use Rattle.pipe_columns.specs.Frame.{FrameData}
use Rattle.pipe_csv.specs.CsvRows.{field, header, missing, width}
use Rattle.pipe_csv.specs.declared.csv_error.CsvError.{CsvError}
use Rattle.pipe_csv.specs.declared.csv_error.CsvError.TheVariants as csv_error
use Rattle.pipe_io.specs.Files.{Files}
use Rattle.pipe_model.specs.Answer.{answer}
use Rattle.pipe_model.specs.Query.{QueryTree}
use Rattle.pipe_source.specs.CsvChunks.{CsvChunks, misfit, Stop, too_large}
use Rattle.pipe_source.specs.Reader.{chunks_left, ReaderState}
use Rattle.memory_runs.specs.TextRuns.{are_few, end_of}

-- an error tells why reading ends; of an input that fails and of want of memory nothing is said
abbrev pub Tells : CsvError → Option Stop → Type 0
Tells (csv_error.Missing file) stop = stop ≡ Some (misfit (missing file))
Tells (csv_error.Header file) stop = stop ≡ Some (misfit (header file))
Tells (csv_error.Width file row) stop = stop ≡ Some (misfit (width file row))
Tells (csv_error.Field file row column) stop = stop ≡ Some (misfit (field file row column))
Tells csv_error.TooLarge stop = stop ≡ Some too_large
Tells csv_error.Input stop = ⊤
Tells csv_error.Memory stop = ⊤

-- where files are told, an error tells why the reading of what was left of them ends
abbrev pub TellsLeft : CsvError → Option Files → ReaderState → Type 0
TellsLeft e told left = IfSome told (λ files. Tells e (end_of (chunks_left files left)))

-- where files are told, these chunks are all that was left, without a stop
abbrev pub AreAll : Option Files → ReaderState → List DataChunk → Type 0
AreAll told left chunks =
    IfSome told (λ files. chunks_left files left ≡ record { chunks = chunks; stop = None })

-- a frame is the answer over few chunks, which are all that was left
pub record IsAnswerOf (q : QueryTree) (told : Option Files) (left : ReaderState) (f : FrameData)
    : Type 0 where
  pub chunks : List DataChunk
  pub all : AreAll told left chunks
  pub few : are_few chunks ≡ true
  pub answer_is : f ≡ answer chunks q 1
