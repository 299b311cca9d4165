-- What is answered where so many chunks are asked for at once.
use Rattle.std.specs.Prelude.{◌≡◌, ◌<◌, ℕ, List, length, Some, ⊤}
use Rattle.pipe_columns.specs.declared.data_chunk.DataChunk.{DataChunk}
use Rattle.pipe_csv.specs.CsvRows.{field, header, missing, width}
use Rattle.pipe_csv.specs.declared.csv_error.CsvError.{CsvError}
use Rattle.pipe_csv.specs.declared.csv_error.CsvError.TheVariants as csv_error
use Rattle.pipe_source.specs.CsvChunks.{CsvChunks, Stop, misfit, too_large}

-- files stop there, behind exactly the chunks that were read, which are fewer than n
abbrev pub HasStop : ℕ → Stop → List DataChunk → CsvChunks → Type 0
HasStop n stop read left =
    (left ≡ record { chunks = read; stop = Some stop }) × (length read < n)

-- an error tells where the files stop, behind exactly the chunks that were read, which are fewer
-- than n; of an input that fails and of want of memory nothing is said
abbrev pub StopsWithin : ℕ → CsvError → List DataChunk → CsvChunks → Type 0
StopsWithin n (csv_error.Missing file) read left = HasStop n (misfit (missing file)) read left
StopsWithin n (csv_error.Header file) read left = HasStop n (misfit (header file)) read left
StopsWithin n (csv_error.Width file row) read left = HasStop n (misfit (width file row)) read left
StopsWithin n (csv_error.Field file row column) read left =
    HasStop n (misfit (field file row column)) read left
StopsWithin n csv_error.TooLarge read left = HasStop n too_large read left
StopsWithin n csv_error.Input read left = ⊤
StopsWithin n csv_error.Memory read left = ⊤
