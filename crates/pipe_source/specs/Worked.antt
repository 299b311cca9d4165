-- Inputs of worked files.
use Rattle.std.specs.Prelude.{ℕ, List, [], ◌∷◌, codes, None}
use Rattle.pipe_columns.specs.declared.data_type.DataType.TheVariants as dt
use Rattle.pipe_columns.specs.declared.any_value.AnyValue.{AnyValue}
use Rattle.pipe_columns.specs.declared.data_chunk.DataChunk.{DataChunk}
use Rattle.pipe_columns.specs.declared.schema.Field.{Field}
use Rattle.pipe_csv.specs.CsvRows.{flagged_frame}
use Rattle.pipe_io.specs.Files.{Files}
use Rattle.pipe_source.specs.declared.read_options.CsvReadOptions.{CsvReadOptions}

-- a number k and a number v under the rows' numbers i, with the file's name p behind
abbrev pub indexed_key_value : List Field
indexed_key_value =
    record { name = codes "i"; dtype = dt.UInt32 }
    ∷ record { name = codes "k"; dtype = dt.Int64 }
    ∷ record { name = codes "v"; dtype = dt.Int64 }
    ∷ record { name = codes "p"; dtype = dt.String } ∷ []

-- a chunk of a number and some rows
abbrev pub chunk_of : List Field → ℕ → List (List AnyValue) → DataChunk
chunk_of schema n rows = record { chunk_index = n; frame = flagged_frame schema rows }

-- chunks of so many rows, all of them wanted, without columns more
abbrev pub plain_options : ℕ → CsvReadOptions
plain_options n = record { chunk_size = n; n_rows = None; row_index = None; include_file_path = None }

-- two files of a number k and a number v
abbrev pub two_files : Files
two_files =
    (codes "a.csv", codes "k,v\n1,5\n2,6\n") ∷ (codes "b.csv", codes "k,v\n1,7\n9,9\n") ∷ []

-- three files with a number k and a number v, each in an order of its own, two beside another column
abbrev pub swapped_files : Files
swapped_files =
    (codes "a", codes "k,v\n1,5\n")
    ∷ (codes "b", codes "v,w,k\r\n7,x,1\r\n,\"y,\",9\r\n")
    ∷ (codes "c", 239 ∷ 187 ∷ 191 ∷ codes "\"v\",\"k\"\n6,2\n8,3\n") ∷ []
