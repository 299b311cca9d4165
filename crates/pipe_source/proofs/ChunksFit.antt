-- Chunks of files have the fields of their source.
use Rattle.std.proofs.Common.{ℕ, ◌+◌, Bool, true, false, if◌then◌else◌, List, [], ◌∷◌, length, Result, Ok, Err}
use Rattle.std.specs.List.{All}
use Rattle.std.proofs.lemmas.List.Elements.{All-append, All-cons, All-nil}
use Rattle.pipe_columns.specs.declared.any_value.AnyValue.{AnyValue}
use Rattle.pipe_columns.specs.declared.data_chunk.DataChunk.{DataChunk}
use Rattle.pipe_columns.specs.declared.schema.Field.{Field}
use Rattle.pipe_columns.specs.Frame.{FitsSchema}
use Rattle.pipe_io.specs.Files.{Files, file_of}
use Rattle.pipe_source.specs.declared.read_options.CsvReadOptions.{CsvReadOptions}
use Rattle.pipe_source.specs.declared.source_place.SourcePlace.{SourcePlace}
use Rattle.pipe_source.specs.CsvChunks.{behind, chunks_of_pieces, chunks_then, CsvChunks, csv_chunks, csv_chunks_from, file_chunks, file_rows, first_place, go_on, is_any_wanted, no_more, source_fields, Stop, wanted_after}
use Rattle.pipe_source.proofs.ReaderFacts.{source-fits}

module _ (options : CsvReadOptions) (schema : List Field) where
  -- a chunk has these fields
  abbrev Fits : DataChunk → Type 0
  Fits c = FitsSchema (source_fields options schema) c.frame

  -- the chunks of pieces of rows
  pieces-fit : (file : List ℕ) (i given : ℕ) (ps : List (List (List AnyValue))) → All Fits (chunks_of_pieces options schema file i given ps)
  pieces-fit file i given [] = All-nil Fits
  pieces-fit file i given (p ∷ ps) = All-cons Fits _ (chunks_of_pieces options schema file (i + 1) (given + length p) ps) (source-fits options schema file given p) (pieces-fit file (i + 1) (given + length p) ps)

  -- chunks that come only where more rows are wanted
  wanted-fit : (b : Bool) (some : CsvChunks) → All Fits some.chunks → All Fits (if b then some else no_more).chunks
  wanted-fit true some fit = fit
  wanted-fit false some fit = All-nil Fits

  -- chunks that come behind a file's rows
  go-fit : (read : Result (List (List AnyValue)) Stop) (rest : List (List AnyValue) → CsvChunks) → ((rows : List (List AnyValue)) → All Fits (rest rows).chunks) → All Fits (go_on read rest).chunks
  go-fit (Err stop) rest fit = All-nil Fits
  go-fit (Ok rows) rest fit = fit rows

  -- the chunks of files from a place on
  pub rest-fit : (files : Files) (at : SourcePlace) (names : List (List ℕ)) → All Fits (csv_chunks_from options schema files at names).chunks
  rest-fit files at [] = All-nil Fits
  rest-fit files at (name ∷ names) =
      let rest : List (List AnyValue) → CsvChunks = λ rows. chunks_then (file_chunks options schema name at rows) (csv_chunks_from options schema files (behind options at rows) names) in
      wanted-fit (is_any_wanted (wanted_after options.n_rows at.rows)) (go_on (file_rows options schema at (file_of files name)) rest)
      (go-fit (file_rows options schema at (file_of files name)) rest
      (λ rows. All-append Fits (file_chunks options schema name at rows) (csv_chunks_from options schema files (behind options at rows) names).chunks
      (pieces-fit name at.chunks at.rows _) (rest-fit files (behind options at rows) names)))

  -- the chunks of files
  pub chunks-fit : (files : Files) (names : List (List ℕ)) → All Fits (csv_chunks files names schema options).chunks
  chunks-fit files names = rest-fit files first_place names
