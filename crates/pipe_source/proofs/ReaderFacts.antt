-- What a reader has left when it reads on to a file, and when it gives a chunk.
use Rattle.std.proofs.Common.{◌≡◌, ◌∙◌, ◌≤◌, ◌<◌, ◌+◌, ◌-◌, ◌^◌, ◌%◌, ℕ, suc, rules, List, [], ◌∷◌, ◌++◌, length, take, drop, get_or, min, nat_le, Bool, true, false, Option, Some, None, option_map, Ok, refl, sym, ap, arith}
use Rattle.std.specs.Option.{IfSome}
use Rattle.std.proofs.lemmas.Bool.Decides.{nat_tests}
use Rattle.std.proofs.lemmas.List.{drop_all, drop_more, map-append, take_all}
use Rattle.pipe_columns.specs.declared.any_value.AnyValue.{AnyValue}
use Rattle.pipe_columns.specs.declared.schema.Field.{Field}
use Rattle.pipe_columns.specs.declared.data_chunk.DataChunk.{DataChunk}
use Rattle.pipe_columns.specs.Frame.{ColumnData, FitsSchema, field_of, fields_of}
use Rattle.pipe_csv.specs.CsvRows.{flagged_frame}
use Rattle.pipe_csv.specs.Columns.{columns_of, values_from}
use Rattle.narrow_columns.specs.Wanted.{chosen, narrowed_chunks}
use Rattle.narrow_columns.proofs.WantedFacts.{narrowed-fields}
use Rattle.pipe_source.proofs.ChosenColumns.{chosen-columns, chosen-ends}
use Rattle.pipe_csv.proofs.PieceFacts.{columns-flagged, frame-fits, length-values}
use Rattle.pipe_io.specs.Files.{Files, file_of}
use Rattle.pipe_scan.specs.Records.{records_at}
use Rattle.pipe_source.specs.declared.file_text.FileText.{FileText}
use Rattle.pipe_source.specs.declared.read_options.CsvReadOptions.{CsvReadOptions}
use Rattle.pipe_source.specs.declared.source_place.SourcePlace.{SourcePlace}
use Rattle.pipe_source.specs.ByName.{chunks_by, file_rows_by}
use Rattle.pipe_source.specs.CsvChunks.{CsvChunks, csv_chunks, wanted_chunks, source_wanted, wanted_fields, behind, chunks_then, file_chunks, index_column, index_field, is_any_wanted, is_numbered, no_more, path_column, path_field, source_fields, source_frame, wanted_after, with_first, with_last}
use Rattle.pipe_source.specs.Found.{IsFound, file_at}
use Rattle.pipe_source.specs.Kept.{chunk_of_rows, given_chunk}
use Rattle.pipe_source.specs.Reader.{ReaderState, chunks_left, whole_left}
use Rattle.pipe_source.specs.LaidRows.{AreLaidAt}
use Rattle.pipe_source.specs.Layout.{laid}
use Rattle.pipe_source.specs.NamedChunks.{named_chunks}
use Rattle.pipe_source.specs.Rows.{record_rows}
use Rattle.pipe_source.specs.declared.layout.Layout.{Layout}
use Rattle.pipe_source.proofs.FileRows.{behind-none, behind-rest, first-chunk, next-rows, none-wanted}

-- what holds of anything holds of what there is
pub of-any : {A : Type 0} (o : Option A) {P : A → Type 0} → ((a : A) → P a) → IfSome o P
of-any None f = tt
of-any (Some a) f = f a

-- the rows that a reader has are those that stand in its text
pub rows-seen : (layout : Option Layout) (schema : List Field) (text : List ℕ) (cursor left : ℕ) (rows : List (List AnyValue)) → AreLaidAt layout schema text cursor left rows → record_rows schema (take left (laid layout (records_at text cursor))) ≡ rows
rows-seen layout schema text cursor left rows a = rw a.read refl

-- there are some where it has some
pub some-left : (layout : Option Layout) (schema : List Field) (text : List ℕ) (cursor left : ℕ) (rows seen : List (List AnyValue)) → AreLaidAt layout schema text cursor left rows → record_rows schema (take left (laid layout (records_at text cursor))) ≡ seen → 0 < length seen → 0 < left
some-left layout schema text cursor left rows seen a e h = omega (arith, a.size, ap length (sym (rows-seen layout schema text cursor left rows a) ∙ e), h)

-- ---- reading on

-- without rows the rest begins with the next file
without-rows : (files : Files) (s : ReaderState) → s.rows ≡ [] → whole_left files s ≡ chunks_by s.by_name s.options s.schema files (file_at s.at s.at.file) s.names
without-rows files s e =
    ap (λ (t : List (List AnyValue)). chunks_then (file_chunks s.options s.schema s.file s.at t) (chunks_by s.by_name s.options s.schema files (behind s.options s.at t) s.names)) e
    ∙ ap (λ (p : SourcePlace). chunks_by s.by_name s.options s.schema files p s.names) (behind-none s.options s.at)

-- none is wanted
zero-wanted : (o : Option ℕ) → o ≡ Some 0 → is_any_wanted o ≡ false
zero-wanted o e = rw e refl

-- without rows, and where none is wanted, nothing is left
pub nothing-wanted : (files : Files) (s : ReaderState) → s.rows ≡ [] → wanted_after s.options.n_rows s.at.rows ≡ Some 0 → chunks_left files s ≡ no_more
nothing-wanted files s e h = ap (wanted_chunks s.options s.wanted) (without-rows files s e ∙ none-wanted s.by_name s.options s.schema files (file_at s.at s.at.file) s.names (zero-wanted (wanted_after s.options.n_rows s.at.rows) h))

-- a file that was found has what was left
pub found-left : (told : Option Files) (by_name : Bool) (options : CsvReadOptions) (schema : List Field) (wanted : List Bool) (names : List (List ℕ)) (last : SourcePlace) (i : ℕ) (f : FileText) (rows : List (List AnyValue))
    → (h : IsFound by_name options schema told names last i f) → rows ≡ h.loaded.rows → is_any_wanted (wanted_after options.n_rows last.rows) ≡ true
    → IfSome told (λ files.
    chunks_left files (record { by_name = by_name; schema = schema; wanted = wanted; options = options; at = file_at last i; file = get_or names (i + 1 - 1) []; rows = rows; names = drop (i + 1) names })
    ≡ chunks_left files (record { by_name = by_name; schema = schema; wanted = wanted; options = options; at = last; file = []; rows = []; names = drop last.file names }))
found-left None by_name options schema wanted names last i f rows h e w = tt
found-left (Some files) by_name options schema wanted names last i f rows h e w =
    let name : List ℕ = get_or names i [] in
    let own : List (List AnyValue) = h.loaded.rows in
    let read : file_rows_by by_name options schema (file_at last i) (file_of files name) ≡ Ok own = ap (file_rows_by by_name options schema (file_at last i)) h.loaded.whole ∙ h.loaded.wanted in
    let next = next-rows by_name options schema files (file_at last i) (drop i names) (drop (i + 1) names) name own (drop_more names i [] h.within) w read in
    let same : i + 1 - 1 ≡ i = omega arith in
    ap (wanted_chunks options wanted) (ap (λ (k : ℕ). whole_left files (record { by_name = by_name; schema = schema; wanted = wanted; options = options; at = file_at last i; file = get_or names k []; rows = rows; names = drop (i + 1) names })) same
    ∙ ap (λ (t : List (List AnyValue)). whole_left files (record { by_name = by_name; schema = schema; wanted = wanted; options = options; at = file_at last i; file = name; rows = t; names = drop (i + 1) names })) e
    ∙ sym (without-rows files (record { by_name = by_name; schema = schema; wanted = wanted; options = options; at = last; file = []; rows = []; names = drop last.file names }) refl ∙ h.passed ∙ next))

-- without rows it doesn't matter whose they are not
pub behind-rows : (files : Files) (s : ReaderState) → s.rows ≡ [] → chunks_left files s ≡ chunks_left files (record { by_name = s.by_name; schema = s.schema; wanted = s.wanted; options = s.options; at = s.at; file = []; rows = []; names = s.names })
behind-rows files s e = ap (wanted_chunks s.options s.wanted) (without-rows files s e ∙ sym (without-rows files (record { by_name = s.by_name; schema = s.schema; wanted = s.wanted; options = s.options; at = s.at; file = []; rows = []; names = s.names }) refl))

-- ---- giving a chunk

-- the first rows of a chunk, of which there may be fewer
pub first-rows : (count m n : ℕ) (xs : List (List AnyValue)) (b : Bool) → nat_le m n ≡ b → count ≡ min m n → length xs ≡ m → take count xs ≡ take n xs
first-rows count m n xs true t e h =
    let few : m ≤ n = grind (arith, nat_tests) in
    take_all count xs (omega arith) ∙ sym (take_all n xs (omega arith))
first-rows count m n xs false t e h =
    let many : n < m = grind (arith, nat_tests) in
    let same : count ≡ n = omega arith in
    ap (λ (k : ℕ). take k xs) same

-- the rows behind them
other-rows : (count m n : ℕ) (xs : List (List AnyValue)) (b : Bool) → nat_le m n ≡ b → count ≡ min m n → length xs ≡ m → drop count xs ≡ drop n xs
other-rows count m n xs true t e h =
    let few : m ≤ n = grind (arith, nat_tests) in
    drop_all count xs (omega arith) ∙ sym (drop_all n xs (omega arith))
other-rows count m n xs false t e h =
    let many : n < m = grind (arith, nat_tests) in
    let same : count ≡ n = omega arith in
    ap (λ (k : ℕ). drop k xs) same

-- a place behind a chunk of so many rows
abbrev pub chunk_later : SourcePlace → ℕ → SourcePlace
chunk_later at count = record { file = at.file; chunks = at.chunks + 1; rows = at.rows + count }

-- the first chunk goes, and the rest is left
pub first-goes : (files : Files) (by_name : Bool) (options : CsvReadOptions) (schema : List Field) (wanted : List Bool) (at : SourcePlace) (file : List ℕ) (names : List (List ℕ)) (rows : List (List AnyValue)) → 0 < options.chunk_size → 0 < length rows
    → chunks_left files (record { by_name = by_name; schema = schema; wanted = wanted; options = options; at = at; file = file; rows = rows; names = names })
    ≡ chunks_then (given_chunk options wanted schema file at (take options.chunk_size rows) ∷ []) (chunks_left files (record { by_name = by_name; schema = schema; wanted = wanted; options = options; at = chunk_later at (length (take options.chunk_size rows)); file = file; rows = drop options.chunk_size rows; names = names }))
first-goes files by_name options schema wanted at file names rows p h =
    let n : ℕ = options.chunk_size in
    ap (wanted_chunks options wanted) (ap (λ (t : List DataChunk). chunks_then t (chunks_by by_name options schema files (behind options at rows) names)) (first-chunk options schema file at rows p h)
    ∙ ap (λ (q : SourcePlace). chunks_then (chunk_of_rows options schema file at (take n rows) ∷ file_chunks options schema file (chunk_later at (length (take n rows))) (drop n rows)) (chunks_by by_name options schema files q names)) (behind-rest options at rows p h))

-- the numbers of the rows behind a chunk
pub numbered-rest : (index : Option (List ℕ × ℕ)) (given left count : ℕ) → count ≤ left → is_numbered index given left ≡ true → is_numbered index (given + count) (left - count) ≡ true
numbered-rest None given left count h e = refl
numbered-rest (Some index) given left count h e = let same : index.1 + (given + count) + (left - count) ≡ index.1 + given + left = omega arith in rw same e

-- the columns at both ends are of the fields at both ends
ends-fit : (index : Option (List ℕ × ℕ)) (path : Option (List ℕ)) (given count : ℕ) (file : List ℕ) (columns : List ColumnData) (schema : List Field) → fields_of columns ≡ schema
    → fields_of (with_first (option_map (index_column given count) index) (with_last columns (option_map (path_column file count) path))) ≡ with_first (option_map (λ i. index_field i.0) index) (with_last schema (option_map path_field path))
ends-fit None None given count file columns schema e = e
ends-fit None (Some p) given count file columns schema e = map-append field_of columns (path_column file count p ∷ []) ∙ ap (λ (t : List Field). t ++ (path_field p ∷ [])) e
ends-fit (Some i) None given count file columns schema e = ap (λ (t : List Field). index_field i.0 ∷ t) e
ends-fit (Some i) (Some p) given count file columns schema e =
    ap (λ (t : List Field). index_field i.0 ∷ t) (map-append field_of columns (path_column file count p ∷ []) ∙ ap (λ (t : List Field). t ++ (path_field p ∷ [])) e)

-- a chunk has the fields of the source
pub source-fits : (options : CsvReadOptions) (schema : List Field) (file : List ℕ) (given : ℕ) (rows : List (List AnyValue)) → FitsSchema (source_fields options schema) (source_frame options schema file given rows)
source-fits options schema file given rows = ends-fit options.row_index options.include_file_path given (length rows) file (flagged_frame schema rows).columns schema (frame-fits schema rows)

-- and its wanted columns the wanted ones
pub given-fits : (options : CsvReadOptions) (wanted : List Bool) (schema : List Field) (file : List ℕ) (at : SourcePlace) (rows : List (List AnyValue)) → FitsSchema (wanted_fields options schema wanted) (given_chunk options wanted schema file at rows).frame
given-fits options wanted schema file at rows =
    narrowed-fields (source_wanted options wanted) (source_frame options schema file at.rows rows) ∙ ap (chosen (source_wanted options wanted)) (source-fits options schema file at.rows rows)

-- what is wanted of columns at both ends of others
pub wanted-ends : {A : Type 0} (options : CsvReadOptions) (wanted : List Bool) (f : List ℕ × ℕ → A) (xs : List A) (last : Option A) → length wanted ≤ length xs
    → chosen (source_wanted options wanted) (with_first (option_map f options.row_index) (with_last xs last)) ≡ with_first (option_map f options.row_index) (with_last (chosen wanted xs) last)
wanted-ends options wanted f xs last h = ends options.row_index where
  ends : (index : Option (List ℕ × ℕ)) → chosen (with_first (option_map (λ (i : List ℕ × ℕ). true) index) wanted) (with_first (option_map f index) (with_last xs last)) ≡ with_first (option_map f index) (with_last (chosen wanted xs) last)
  ends None = chosen-ends None wanted xs last h
  ends (Some i) = chosen-ends (Some (f i)) wanted xs last h

-- the columns of rows are as many as the fields
pub length-flagged : (schema : List Field) (rows : List (List AnyValue)) → length (flagged_frame schema rows).columns ≡ length schema
length-flagged schema rows = sym (ap length (columns-flagged 0 schema rows)) ∙ same schema (values_from 0 schema rows) (length-values 0 schema rows) where
  same : (fs : List Field) (cs : List (List AnyValue)) → length cs ≡ length fs → length (columns_of fs cs) ≡ length fs
  same [] cs e = refl
  same (f ∷ fs) [] e = cc
  same (f ∷ fs) (c ∷ cs) e = ap (λ n. suc n) (same fs cs (omega arith))

-- the wanted columns of rows make the chunk of these rows
pub chunk-made : (options : CsvReadOptions) (wanted : List Bool) (schema kept : List Field) (file : List ℕ) (at : SourcePlace) (count : ℕ) (held : List (List AnyValue)) (rows : List (List AnyValue)) (chunk : DataChunk)
    → chunk ≡ record {
      chunk_index = at.chunks % 2 ^ 32;
      frame = record { height = count; columns = with_first (option_map (index_column at.rows count) options.row_index) (with_last (columns_of kept held) (option_map (path_column file count) options.include_file_path)) };
    }
    → kept ≡ chosen wanted schema → length wanted ≤ length schema → held ≡ chosen wanted (values_from 0 schema rows) → length rows ≡ count → chunk ≡ given_chunk options wanted schema file at rows
chunk-made options wanted schema kept file at count held rows chunk c k few h n =
    let whole : List ColumnData = (flagged_frame schema rows).columns in
    let columns : columns_of kept held ≡ chosen wanted whole =
    (λ i. columns_of (k i) (h i)) ∙ chosen-columns wanted schema (values_from 0 schema rows) ∙ ap (chosen wanted) (columns-flagged 0 schema rows) in
    let made : ℕ → List ColumnData → DataChunk = λ k cs. record {
      chunk_index = at.chunks % 2 ^ 32;
      frame = record { height = k; columns = cs };
    } in
    let ends : ℕ → List ColumnData → List ColumnData = λ k cs. with_first (option_map (index_column at.rows k) options.row_index) (with_last cs (option_map (path_column file k) options.include_file_path)) in
    c ∙ ap (λ (t : List ColumnData). made count (ends count t)) columns ∙ ap (λ (k : ℕ). made k (ends k (chosen wanted whole))) (sym n)
    ∙ ap (made (length rows)) (sym (wanted-ends options wanted (index_column at.rows (length rows)) whole (option_map (path_column file (length rows)) options.include_file_path) (omega (arith, few, length-flagged schema rows))))

-- where all columns are wanted, all are given
all-fields : {A : Type 0} (options : CsvReadOptions) (xs : List A) → chosen (source_wanted options []) xs ≡ xs
all-fields options xs = all options.row_index xs where
  all : {A : Type 0} (index : Option (List ℕ × ℕ)) (xs : List A) → chosen (with_first (option_map (λ (i : List ℕ × ℕ). true) index) []) xs ≡ xs
  all None xs = refl
  all (Some i) [] = refl
  all (Some i) (x ∷ xs) = refl

pub all-wanted : (options : CsvReadOptions) (schema : List Field) → wanted_fields options schema [] ≡ source_fields options schema
all-wanted options schema = all-fields options (source_fields options schema)

all-chunks : (options : CsvReadOptions) (chunks : List DataChunk) → narrowed_chunks (source_wanted options []) chunks ≡ chunks
all-chunks options [] = refl
all-chunks options (c ∷ cs) =
    let one = all-fields options c.frame.columns in
    let rest = all-chunks options cs in
    λ i. record { chunk_index = c.chunk_index; frame = record { height = c.frame.height; columns = one i } } ∷ rest i

pub all-given : (options : CsvReadOptions) (given : CsvChunks) → wanted_chunks options [] given ≡ given
all-given options given = ap (λ (t : List DataChunk). record { chunks = t; stop = given.stop }) (all-chunks options given.chunks)

-- before any file is read, all of them are left
pub fresh-left : (files : Files) (options : CsvReadOptions) (schema : List Field) (wanted : List Bool) (file : List ℕ) (names : List (List ℕ))
    → whole_left files (record { by_name = false; schema = schema; wanted = wanted; options = options; at = record { file = 0; chunks = 0; rows = 0 }; file = file; rows = []; names = names }) ≡ csv_chunks files names schema options
fresh-left files options schema wanted file names = search rules

-- so they are by name
pub fresh-named : (files : Files) (options : CsvReadOptions) (columns : List Field) (wanted : List Bool) (file : List ℕ) (names : List (List ℕ))
    → whole_left files (record { by_name = true; schema = columns; wanted = wanted; options = options; at = record { file = 0; chunks = 0; rows = 0 }; file = file; rows = []; names = names }) ≡ named_chunks files names columns options
fresh-named files options columns wanted file names = search rules
