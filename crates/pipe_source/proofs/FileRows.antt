-- Where a file stops, and what is left of files behind those that were passed.
use Rattle.std.proofs.Common.{◌≡◌, ◌∙◌, ◌≤◌, ◌<◌, ◌+◌, ◌^◌, ℕ, List, [], ◌∷◌, length, take, drop, Bool, true, false, nat_lt, Option, Some, None, Result, Ok, Err, refl, sym, ap, arith, subst}
use Rattle.std.proofs.lemmas.Bool.Decides.{nat_tests}
use Rattle.std.proofs.lemmas.List.{length-drop, length-take, nil_from_length}
use Rattle.pipe_columns.specs.declared.any_value.AnyValue.{AnyValue}
use Rattle.pipe_columns.specs.declared.schema.Field.{Field}
use Rattle.pipe_columns.specs.Pieces.{pieces}
use Rattle.pipe_csv.specs.CsvRows.{Misfit, missing}
use Rattle.pipe_csv.specs.CsvError.{StopsBy}
use Rattle.pipe_csv.specs.declared.csv_error.CsvError.{CsvError}
use Rattle.pipe_csv.specs.declared.csv_error.CsvError.TheVariants as ce
use Rattle.pipe_csv.proofs.PieceFacts.{enough_turns}
use Rattle.pipe_io.specs.Files.{Files, HasNoFile, IsLarger, IsWhole, file_of}
use Rattle.pipe_io.specs.declared.whole_file.TheConstants.{MOST_FILE_BYTES}
use Rattle.pipe_source.specs.declared.read_options.CsvReadOptions.{CsvReadOptions}
use Rattle.pipe_source.specs.declared.source_place.SourcePlace.{SourcePlace}
use Rattle.pipe_source.specs.ByName.{chunks_by, file_rows_by, text_rows_by}
use Rattle.pipe_source.specs.CsvChunks.{CsvChunks, Stop, behind, chunks_of_pieces, chunks_then, file_chunks, go_on, is_any_wanted, is_numbered, misfit, no_more, numbered_rows, source_frame, too_large, wanted_after}
use Rattle.pipe_source.specs.Reader.{StopsAt, stopped}
use Rattle.pipe_source.specs.Rows.{StopsFile, StopsTold}
use Rattle.std.specs.Prelude.{◌%◌}

-- ---- a file

-- a file that isn't there
pub told-missing : (told : Option Files) (name : List ℕ) (by_name : Bool) (options : CsvReadOptions) (schema : List Field) (at : SourcePlace) → HasNoFile told name → StopsTold (ce.Missing at.file) by_name options schema at told name
told-missing None name by_name options schema at h = tt
told-missing (Some files) name by_name options schema at h = ap (file_rows_by by_name options schema at) h ∙ no-file by_name where
  no-file : (b : Bool) → file_rows_by b options schema at None ≡ Err (misfit (missing at.file))
  no-file false = refl
  no-file true = refl

-- a file that is too large
large-stops : (by_name : Bool) (options : CsvReadOptions) (schema : List Field) (at : SourcePlace) (text : List ℕ) → MOST_FILE_BYTES < length text → file_rows_by by_name options schema at (Some text) ≡ Err too_large
large-stops false options schema at text h = let large : nat_lt MOST_FILE_BYTES (length text) ≡ true = grind (arith, nat_tests) in rw large refl
large-stops true options schema at text h = let large : nat_lt MOST_FILE_BYTES (length text) ≡ true = grind (arith, nat_tests) in rw large refl

-- where files are told
pub told-large : (told : Option Files) (name : List ℕ) (by_name : Bool) (options : CsvReadOptions) (schema : List Field) (at : SourcePlace) → IsLarger told name MOST_FILE_BYTES → StopsTold ce.TooLarge by_name options schema at told name
told-large None name by_name options schema at h = tt
told-large (Some files) name by_name options schema at h = ap (file_rows_by by_name options schema at) h.1 ∙ large-stops by_name options schema at h.0 h.2

-- a file that isn't too large has the wanted rows of its text
small-rows : (by_name : Bool) (options : CsvReadOptions) (schema : List Field) (at : SourcePlace) (text : List ℕ) → length text ≤ MOST_FILE_BYTES
    → file_rows_by by_name options schema at (Some text) ≡ numbered_rows options.row_index at.rows (text_rows_by by_name at.file (wanted_after options.n_rows at.rows) schema text)
small-rows false options schema at text h = let small : nat_lt MOST_FILE_BYTES (length text) ≡ false = grind (arith, nat_tests) in rw small refl
small-rows true options schema at text h = let small : nat_lt MOST_FILE_BYTES (length text) ≡ false = grind (arith, nat_tests) in rw small refl

-- a misfit stays one
misfit-kept : (index : Option (List ℕ × ℕ)) (given : ℕ) (read : Result (List (List AnyValue)) Misfit) (m : Misfit) → read ≡ Err m → numbered_rows index given read ≡ Err (misfit m)
misfit-kept index given read m e = rw e refl

-- an error of a text is one of its file
error-kept : (e : CsvError) (index : Option (List ℕ × ℕ)) (given : ℕ) (read : Result (List (List AnyValue)) Misfit) → StopsBy e read → StopsFile e (numbered_rows index given read)
error-kept (ce.Header file) index given read s = misfit-kept index given read _ s
error-kept (ce.Width file row) index given read s = misfit-kept index given read _ s
error-kept (ce.Field file row column) index given read s = misfit-kept index given read _ s
error-kept ce.Input index given read s = tt
error-kept ce.TooLarge index given read s = absurd s
error-kept ce.Memory index given read s = tt
error-kept (ce.Missing file) index given read s = absurd s

-- where files are told, an error of a text that was read whole
pub told-misfit : (e : CsvError) (told : Option Files) (name : List ℕ) (by_name : Bool) (options : CsvReadOptions) (schema : List Field) (at : SourcePlace) (text : List ℕ)
    → IsWhole told name text → length text ≤ MOST_FILE_BYTES → StopsBy e (text_rows_by by_name at.file (wanted_after options.n_rows at.rows) schema text) → StopsTold e by_name options schema at told name
told-misfit e None name by_name options schema at text w h s = tt
told-misfit e (Some files) name by_name options schema at text w h s =
    let P : Result (List (List AnyValue)) Stop → Type 0 = λ t. StopsFile e t in
    let read : file_rows_by by_name options schema at (file_of files name) ≡ numbered_rows options.row_index at.rows (text_rows_by by_name at.file (wanted_after options.n_rows at.rows) schema text) = ap (file_rows_by by_name options schema at) w ∙ small-rows by_name options schema at text h in
    subst P (sym read) (error-kept e options.row_index at.rows _ s)

-- rows that can't be numbered
numbers-pass : (index : Option (List ℕ × ℕ)) (given : ℕ) (read : Result (List (List AnyValue)) Misfit) (rows : List (List AnyValue)) → read ≡ Ok rows → is_numbered index given (length rows) ≡ false → numbered_rows index given read ≡ Err too_large
numbers-pass index given read rows e h = rw (e, h) refl

-- rows that can
numbers-stay : (index : Option (List ℕ × ℕ)) (given : ℕ) (read : Result (List (List AnyValue)) Misfit) (rows : List (List AnyValue)) → read ≡ Ok rows → is_numbered index given (length rows) ≡ true → numbered_rows index given read ≡ Ok rows
numbers-stay index given read rows e h = rw (e, h) refl

-- where files are told, rows of a text that was read whole can't be numbered
pub told-numbers : (told : Option Files) (name : List ℕ) (by_name : Bool) (options : CsvReadOptions) (schema : List Field) (at : SourcePlace) (text : List ℕ) (rows : List (List AnyValue)) (count : ℕ)
    → IsWhole told name text → length text ≤ MOST_FILE_BYTES → text_rows_by by_name at.file (wanted_after options.n_rows at.rows) schema text ≡ Ok rows → length rows ≡ count → is_numbered options.row_index at.rows count ≡ false → StopsTold ce.TooLarge by_name options schema at told name
told-numbers None name by_name options schema at text rows count w h r n b = tt
told-numbers (Some files) name by_name options schema at text rows count w h r n b =
    ap (file_rows_by by_name options schema at) w ∙ small-rows by_name options schema at text h ∙ numbers-pass options.row_index at.rows _ rows r (ap (is_numbered options.row_index at.rows) n ∙ b)

-- the rows of a text that was read whole and can be numbered
pub text-wanted : (by_name : Bool) (options : CsvReadOptions) (schema : List Field) (at : SourcePlace) (text : List ℕ) (rows : List (List AnyValue)) (count : ℕ)
    → length text ≤ MOST_FILE_BYTES → text_rows_by by_name at.file (wanted_after options.n_rows at.rows) schema text ≡ Ok rows → length rows ≡ count → is_numbered options.row_index at.rows count ≡ true → file_rows_by by_name options schema at (Some text) ≡ Ok rows
text-wanted by_name options schema at text rows count h r n b = small-rows by_name options schema at text h ∙ numbers-stay options.row_index at.rows _ rows r (ap (is_numbered options.row_index at.rows) n ∙ b)

-- ---- files

-- behind no row the next file is at the same place
pub behind-none : (options : CsvReadOptions) (at : SourcePlace) → behind options at [] ≡ record { file = at.file + 1; chunks = at.chunks; rows = at.rows }
behind-none options at =
    let a : at.chunks + 0 ≡ at.chunks = omega arith in
    let b : at.rows + 0 ≡ at.rows = omega arith in
    ap (λ (n : ℕ). let p : SourcePlace = record { file = at.file + 1; chunks = n; rows = at.rows + 0 } in p) a ∙ ap (λ (n : ℕ). let p : SourcePlace = record { file = at.file + 1; chunks = at.chunks; rows = n } in p) b

-- the next file of some names, of which rows are wanted
next-file : (by_name : Bool) (options : CsvReadOptions) (schema : List Field) (files : Files) (at : SourcePlace) (names rest : List (List ℕ)) (name : List ℕ) → names ≡ name ∷ rest → is_any_wanted (wanted_after options.n_rows at.rows) ≡ true
    → chunks_by by_name options schema files at names ≡ go_on (file_rows_by by_name options schema at (file_of files name)) (λ rows. chunks_then (file_chunks options schema name at rows) (chunks_by by_name options schema files (behind options at rows) rest))
next-file false options schema files at names rest name e h = rw (e, h) refl
next-file true options schema files at names rest name e h = rw (e, h) refl

-- a file that has rows
pub next-rows : (by_name : Bool) (options : CsvReadOptions) (schema : List Field) (files : Files) (at : SourcePlace) (names rest : List (List ℕ)) (name : List ℕ) (rows : List (List AnyValue)) → names ≡ name ∷ rest → is_any_wanted (wanted_after options.n_rows at.rows) ≡ true → file_rows_by by_name options schema at (file_of files name) ≡ Ok rows
    → chunks_by by_name options schema files at names ≡ chunks_then (file_chunks options schema name at rows) (chunks_by by_name options schema files (behind options at rows) rest)
next-rows by_name options schema files at names rest name rows e h r =
    let more : List (List AnyValue) → CsvChunks = λ rows. chunks_then (file_chunks options schema name at rows) (chunks_by by_name options schema files (behind options at rows) rest) in
    next-file by_name options schema files at names rest name e h ∙ ap (λ (t : Result (List (List AnyValue)) Stop). go_on t more) r

-- a file that stops
next-stops : (by_name : Bool) (options : CsvReadOptions) (schema : List Field) (files : Files) (at : SourcePlace) (names rest : List (List ℕ)) (name : List ℕ) (stop : Stop) → names ≡ name ∷ rest → is_any_wanted (wanted_after options.n_rows at.rows) ≡ true → file_rows_by by_name options schema at (file_of files name) ≡ Err stop → chunks_by by_name options schema files at names ≡ stopped stop
next-stops by_name options schema files at names rest name stop e h r =
    let more : List (List AnyValue) → CsvChunks = λ rows. chunks_then (file_chunks options schema name at rows) (chunks_by by_name options schema files (behind options at rows) rest) in
    next-file by_name options schema files at names rest name e h ∙ ap (λ (t : Result (List (List AnyValue)) Stop). go_on t more) r

-- a file without rows is passed
pub next-passed : (by_name : Bool) (options : CsvReadOptions) (schema : List Field) (files : Files) (at : SourcePlace) (names rest : List (List ℕ)) (name : List ℕ) (rows : List (List AnyValue)) → names ≡ name ∷ rest → is_any_wanted (wanted_after options.n_rows at.rows) ≡ true → file_rows_by by_name options schema at (file_of files name) ≡ Ok rows → length rows ≡ 0
    → chunks_by by_name options schema files at names ≡ chunks_by by_name options schema files (record { file = at.file + 1; chunks = at.chunks; rows = at.rows }) rest
next-passed by_name options schema files at names rest name rows e h r n =
    let none : rows ≡ [] = nil_from_length rows n in
    next-rows by_name options schema files at names rest name rows e h r
    ∙ ap (λ (t : List (List AnyValue)). chunks_then (file_chunks options schema name at t) (chunks_by by_name options schema files (behind options at t) rest)) none
    ∙ ap (λ (p : SourcePlace). chunks_by by_name options schema files p rest) (behind-none options at)

-- an error of the next file is where the files stop
pub error-stops : (e : CsvError) (by_name : Bool) (options : CsvReadOptions) (schema : List Field) (files : Files) (at : SourcePlace) (names rest : List (List ℕ)) (name : List ℕ) → names ≡ name ∷ rest → is_any_wanted (wanted_after options.n_rows at.rows) ≡ true
    → StopsFile e (file_rows_by by_name options schema at (file_of files name)) → StopsAt e (chunks_by by_name options schema files at names)
error-stops (ce.Header file) by_name options schema files at names rest name h w s = next-stops by_name options schema files at names rest name _ h w s
error-stops (ce.Width file row) by_name options schema files at names rest name h w s = next-stops by_name options schema files at names rest name _ h w s
error-stops (ce.Field file row column) by_name options schema files at names rest name h w s = next-stops by_name options schema files at names rest name _ h w s
error-stops ce.Input by_name options schema files at names rest name h w s = tt
error-stops ce.TooLarge by_name options schema files at names rest name h w s = next-stops by_name options schema files at names rest name _ h w s
error-stops ce.Memory by_name options schema files at names rest name h w s = tt
error-stops (ce.Missing file) by_name options schema files at names rest name h w s = next-stops by_name options schema files at names rest name _ h w s

-- no name is left
pub names-over : (by_name : Bool) (options : CsvReadOptions) (schema : List Field) (files : Files) (at : SourcePlace) (names : List (List ℕ)) → names ≡ [] → chunks_by by_name options schema files at names ≡ no_more
names-over false options schema files at names e = rw e refl
names-over true options schema files at names e = rw e refl

-- no row is wanted
pub none-wanted : (by_name : Bool) (options : CsvReadOptions) (schema : List Field) (files : Files) (at : SourcePlace) (names : List (List ℕ)) → is_any_wanted (wanted_after options.n_rows at.rows) ≡ false → chunks_by by_name options schema files at names ≡ no_more
none-wanted false options schema files at [] h = refl
none-wanted false options schema files at (name ∷ names) h = rw h refl
none-wanted true options schema files at [] h = refl
none-wanted true options schema files at (name ∷ names) h = rw h refl

-- ---- chunks

-- the first piece, and the pieces of the rest
pub first-piece : (n : ℕ) (rows : List (List AnyValue)) → 0 < n → 0 < length rows → pieces n rows ≡ take n rows ∷ pieces n (drop n rows)
first-piece n [] p h = absurd (omega arith)
first-piece n (r ∷ rs) p h =
    let size : length (drop n (r ∷ rs)) ≤ length rs = omega (arith, length-drop n (r ∷ rs)) in
    ap (λ (t : List (List (List AnyValue))). take n (r ∷ rs) ∷ t) (enough_turns (length rs) (length (drop n (r ∷ rs))) n (drop n (r ∷ rs)) p size (omega arith))

-- the first chunk, and the chunks of the rest
pub first-chunk : (options : CsvReadOptions) (schema : List Field) (name : List ℕ) (at : SourcePlace) (rows : List (List AnyValue)) → 0 < options.chunk_size → 0 < length rows
    → file_chunks options schema name at rows ≡ record { chunk_index = at.chunks % 2 ^ 32; frame = source_frame options schema name at.rows (take options.chunk_size rows) }
    ∷ file_chunks options schema name (record { file = at.file; chunks = at.chunks + 1; rows = at.rows + length (take options.chunk_size rows) }) (drop options.chunk_size rows)
first-chunk options schema name at rows p h = ap (chunks_of_pieces options schema name at.chunks at.rows) (first-piece options.chunk_size rows p h)

-- the place behind all rows is that behind the rest
pub behind-rest : (options : CsvReadOptions) (at : SourcePlace) (rows : List (List AnyValue)) → 0 < options.chunk_size → 0 < length rows
    → behind options at rows ≡ behind options (record { file = at.file; chunks = at.chunks + 1; rows = at.rows + length (take options.chunk_size rows) }) (drop options.chunk_size rows)
behind-rest options at rows p h =
    let n : ℕ = options.chunk_size in
    let a : at.chunks + length (pieces n rows) ≡ at.chunks + 1 + length (pieces n (drop n rows)) = omega (arith, ap length (first-piece n rows p h)) in
    let b : at.rows + length rows ≡ at.rows + length (take n rows) + length (drop n rows) = omega (arith, length-take n rows, length-drop n rows) in
    ap (λ (k : ℕ). let q : SourcePlace = record { file = at.file + 1; chunks = k; rows = at.rows + length rows } in q) a
    ∙ ap (λ (k : ℕ). let q : SourcePlace = record { file = at.file + 1; chunks = at.chunks + 1 + length (pieces n (drop n rows)); rows = k } in q) b
