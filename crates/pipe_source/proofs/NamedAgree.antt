-- Columns that are found by their names, beside those that stand in order.
use Rattle.std.proofs.Common.{◌≡◌, ◌∙◌, ◌≤◌, ◌<◌, ◌+◌, ◌-◌, ◌^◌, ◌%◌, ◌==◌, ◌&&◌, ◌++◌, ℕ, zero, suc, Bool, true, false, List, [], ◌∷◌, length, map, take, drop, get_or, nat_lt, Option, Some, None, option_map, Result, Ok, Err, refl, sym, ap, subst, arith, append_assoc, eq-eqb, if◌then◌else◌}
use Rattle.std.specs.Bool.{⊤}
use Rattle.std.specs.Option.{ok_or}
use Rattle.std.specs.List.{range_with_len, drop-map}
use Rattle.std.specs.Str.{bytes_eq}
use Rattle.std.proofs.lemmas.Bool.{and_parts, ne_eqb}
use Rattle.std.proofs.lemmas.Bool.Decides.{nat_tests}
use Rattle.std.proofs.lemmas.List.{append-nil, length-map, map-append, take-map}
use Rattle.std.proofs.lemmas.Slice.Eq.{bytes_eq-Decides}
use Rattle.csv.specs.Reading.{default_config, records, strip_bom}
use Rattle.narrow_columns.specs.Wanted.{chosen, narrowed_chunks, narrowed_frame}
use Rattle.narrow_columns.proofs.WantedFacts.{chosen-map, chosen-nil}
use Rattle.pipe_columns.specs.declared.any_value.AnyValue.{AnyValue}
use Rattle.pipe_columns.specs.declared.data_chunk.DataChunk.{DataChunk}
use Rattle.pipe_columns.specs.declared.schema.Field.{Field}
use Rattle.pipe_columns.specs.Frame.{ColumnData, FrameData}
use Rattle.pipe_columns.specs.Pieces.{pieces, pieces_within}
use Rattle.pipe_csv.specs.Columns.{columns_of, values_from, with_row}
use Rattle.pipe_csv.specs.CsvRows.{after, field, flagged_frame, header, in_front, is_header, Misfit, read_fields, read_row, read_rows, width}
use Rattle.pipe_csv.specs.Fields.{read_field}
use Rattle.pipe_csv.proofs.PieceFacts.{columns-flagged, values-none, values-push}
use Rattle.pipe_csv.proofs.ReadFacts.{length-row, same_Ok}
use Rattle.pipe_io.specs.Files.{Files, file_of}
use Rattle.pipe_io.specs.declared.whole_file.TheConstants.{MOST_FILE_BYTES}
use Rattle.pipe_scan.specs.Records.{Records}
use Rattle.pipe_source.specs.CsvChunks.{behind, chunks_of_pieces, chunks_then, csv_chunks_from, CsvChunks, file_chunks, file_rows, go_on, index_column, is_any_wanted, is_numbered, misfit, no_more, numbered_rows, path_column, source_frame, source_wanted, Stop, text_rows, too_large, wanted_after, wanted_chunks, wanted_of, wanted_rows, with_first, with_last}
use Rattle.pipe_source.specs.InOrder.{AreFound, IsOfRow, StopsElsewhere}
use Rattle.pipe_source.specs.NamedChunks.{named_chunks_from, named_file_rows}
use Rattle.pipe_source.specs.NamedRows.{fields_at, named_row, named_rows, named_text_rows, not_once, place_of, places_of, rows_behind, wanted_named_rows}
use Rattle.pipe_source.specs.declared.read_options.CsvReadOptions.{CsvReadOptions}
use Rattle.pipe_source.specs.declared.source_place.SourcePlace.{SourcePlace}
use Rattle.pipe_source.proofs.ChosenColumns.{chosen-columns, chosen-none, chosen-row}
use Rattle.pipe_source.proofs.LayoutFacts.{placed-ok}
use Rattle.pipe_source.proofs.PlacedFields.{same-count}
use Rattle.pipe_source.proofs.ReaderFacts.{length-flagged, wanted-ends}
use Rattle.pipe_csv.proofs.ReadFacts.{after-ok}

-- ---- a header

-- names that are compared as one are one
same-name : (a b : List ℕ) → bytes_eq a b ≡ true → a ≡ b
same-name a b h = (bytes_eq-Decides a b).0 h

-- a header of a schema has its names
header-names : (fs : List Field) (ts : List (List ℕ)) → is_header fs ts ≡ true → ts ≡ map (λ f. f.name) fs
header-names [] [] h = refl
header-names [] (t ∷ ts) h = cc
header-names (f ∷ fs) [] h = cc
header-names (f ∷ fs) (t ∷ ts) h =
    let parts = and_parts (bytes_eq f.name t) (is_header fs ts) h in
    λ i. sym (same-name f.name t parts.0) i ∷ header-names fs ts parts.1 i

-- a column that has its place, and those behind it
place-step : (f c : ℕ) (x : Field) (xs : List Field) (names : List (List ℕ)) (p : ℕ) (ps all : List ℕ) → place_of x.name 0 names ≡ Some p → places_of f (c + 1) xs names ≡ Ok ps → all ≡ p ∷ ps → places_of f c (x ∷ xs) names ≡ Ok all
place-step f c x xs names p ps all h e g = rw (h, e, g) refl

-- of columns that have places the wanted ones have the wanted places
places-chosen : (ws : List Bool) (file column f c : ℕ) (cs : List Field) (names : List (List ℕ)) (places : List ℕ) → places_of file column cs names ≡ Ok places → places_of f c (chosen ws cs) names ≡ Ok (chosen ws places)
places-chosen ws file column f c [] names places e =
    let none : [] ≡ places = same_Ok {E = Misfit} [] places e in
    rw (← none, chosen-nil {A = Field} ws, chosen-nil {A = ℕ} ws) refl
places-chosen [] file column f c (x ∷ xs) names places e =
    let parts = after-ok (ok_or (place_of x.name 0 names) (not_once file column)) (places_of file (column + 1) xs names) places e in
    let here = placed-ok (place_of x.name 0 names) (not_once file column) parts.0 parts.2 in
    place-step f c x xs names parts.0 parts.1 places here (places-chosen [] file (column + 1) f (c + 1) xs names parts.1 parts.3) parts.4
places-chosen (true ∷ ws) file column f c (x ∷ xs) names places e =
    let parts = after-ok (ok_or (place_of x.name 0 names) (not_once file column)) (places_of file (column + 1) xs names) places e in
    let here = placed-ok (place_of x.name 0 names) (not_once file column) parts.0 parts.2 in
    place-step f c x (chosen ws xs) names parts.0 (chosen ws parts.1) (chosen (true ∷ ws) places) here (places-chosen ws file (column + 1) f (c + 1) xs names parts.1 parts.3) (ap (chosen (true ∷ ws)) parts.4)
places-chosen (false ∷ ws) file column f c (x ∷ xs) names places e =
    let parts = after-ok (ok_or (place_of x.name 0 names) (not_once file column)) (places_of file (column + 1) xs names) places e in
    places-chosen ws file (column + 1) f c xs names parts.1 parts.3 ∙ ap (λ (t : List ℕ). Ok (chosen (false ∷ ws) t)) (sym parts.4)

-- ---- fields

-- all fields of a record, by their places
all-at : (texts : List (List ℕ)) (a : ℕ) (f : ℕ → List ℕ) → ((i : ℕ) → i < length texts → f (a + i) ≡ get_or texts i []) → map f (range_with_len a (length texts)) ≡ texts
all-at [] a f h = refl
all-at (t ∷ ts) a f h =
    let z : a + 0 ≡ a = omega arith in
    let first : f a ≡ t = rw z at (h 0 (omega arith)) in
    let rest = all-at ts (a + 1) f (λ i l. let e : a + 1 + i ≡ a + suc i = omega arith in rw e (h (suc i) (omega (arith, l)))) in
    rw (first, rest) refl

-- the fields at the wanted places are the wanted ones
fields-chosen : (ws : List Bool) (n : ℕ) (texts : List (List ℕ)) → length texts ≡ n → fields_at (chosen ws (range_with_len 0 n)) texts ≡ chosen ws texts
fields-chosen ws n texts e =
    sym (chosen-map (λ place. get_or texts place []) ws (range_with_len 0 n))
    ∙ ap (chosen ws) (ap (λ (m : ℕ). map (λ place. get_or texts place []) (range_with_len 0 m)) (sym e) ∙ all-at texts 0 (λ place. get_or texts place []) (λ i l. let z : 0 + i ≡ i = omega arith in rw z refl))

-- what is read of the wanted columns is what is wanted of what is read, but where a header or a field stops that
abbrev Agrees : {A : Type 0} → (A → A) → Result A Misfit → Result A Misfit → Type 0
Agrees f (Ok a) r = r ≡ Ok (f a)
Agrees f (Err m) r = IsOfRow m → r ≡ Err m

-- a value that isn't wanted, and one that is
value-left : (ws : List Bool) (v : AnyValue) (rest named : Result (List AnyValue) Misfit) → Agrees (chosen ws) rest named → Agrees (chosen (false ∷ ws)) (in_front (v ∷ []) rest) named
value-left ws v (Ok vs) named h = h
value-left ws v (Err m) named h = h

value-kept : (ws : List Bool) (v : AnyValue) (rest named : Result (List AnyValue) Misfit) → Agrees (chosen ws) rest named → Agrees (chosen (true ∷ ws)) (in_front (v ∷ []) rest) (in_front (v ∷ []) named)
value-kept ws v (Ok vs) named h = rw h refl
value-kept ws v (Err m) named h = λ s. rw (h s) refl

value-whole : (v : AnyValue) (rest named : Result (List AnyValue) Misfit) → Agrees (chosen []) rest named → Agrees (chosen []) (in_front (v ∷ []) rest) (in_front (v ∷ []) named)
value-whole v (Ok vs) named h = rw h refl
value-whole v (Err m) named h = λ s. rw (h s) refl

-- fields agree
fields-agree : (ws : List Bool) (file row c d : ℕ) (fs : List Field) (ts : List (List ℕ)) → length ts ≡ length fs → Agrees (chosen ws) (read_fields file row c fs ts) (read_fields file row d (chosen ws fs) (chosen ws ts))
fields-agree ws file row c d [] ts h = rw (chosen-nil {A = Field} ws, chosen-nil {A = AnyValue} ws) refl
fields-agree ws file row c d (f ∷ fs) [] h = absurd (omega (arith, h))
fields-agree [] file row c d (f ∷ fs) (t ∷ ts) h = by (read_field f.dtype t) refl (fields-agree [] file row (c + 1) (d + 1) fs ts (omega (arith, h))) where
  by : (o : Option AnyValue) → read_field f.dtype t ≡ o → Agrees (chosen []) (read_fields file row (c + 1) fs ts) (read_fields file row (d + 1) fs ts) → Agrees (chosen []) (read_fields file row c (f ∷ fs) (t ∷ ts)) (read_fields file row d (f ∷ fs) (t ∷ ts))
  by None e rest = rw e (λ s. absurd s)
  by (Some v) e rest = rw e (value-whole v (read_fields file row (c + 1) fs ts) (read_fields file row (d + 1) fs ts) rest)
fields-agree (true ∷ ws) file row c d (f ∷ fs) (t ∷ ts) h = by (read_field f.dtype t) refl (fields-agree ws file row (c + 1) (d + 1) fs ts (omega (arith, h))) where
  by : (o : Option AnyValue) → read_field f.dtype t ≡ o → Agrees (chosen ws) (read_fields file row (c + 1) fs ts) (read_fields file row (d + 1) (chosen ws fs) (chosen ws ts)) → Agrees (chosen (true ∷ ws)) (read_fields file row c (f ∷ fs) (t ∷ ts)) (read_fields file row d (f ∷ chosen ws fs) (t ∷ chosen ws ts))
  by None e rest = rw e (λ s. absurd s)
  by (Some v) e rest = rw e (value-kept ws v (read_fields file row (c + 1) fs ts) (read_fields file row (d + 1) (chosen ws fs) (chosen ws ts)) rest)
fields-agree (false ∷ ws) file row c d (f ∷ fs) (t ∷ ts) h = by (read_field f.dtype t) refl (fields-agree ws file row (c + 1) d fs ts (omega (arith, h))) where
  by : (o : Option AnyValue) → read_field f.dtype t ≡ o → Agrees (chosen ws) (read_fields file row (c + 1) fs ts) (read_fields file row d (chosen ws fs) (chosen ws ts)) → Agrees (chosen (false ∷ ws)) (read_fields file row c (f ∷ fs) (t ∷ ts)) (read_fields file row d (chosen ws fs) (chosen ws ts))
  by None e rest = rw e (λ s. absurd s)
  by (Some v) e rest = rw e (value-left ws v (read_fields file row (c + 1) fs ts) (read_fields file row d (chosen ws fs) (chosen ws ts)) rest)

-- ---- rows

-- the places of the wanted columns of a schema
abbrev wanted_at : List Bool → List Field → List ℕ
wanted_at ws schema = chosen ws (range_with_len 0 (length schema))

-- a row agrees
row-agrees : (ws : List Bool) (file row : ℕ) (schema : List Field) (ts : List (List ℕ)) → Agrees (chosen ws) (read_row file row schema ts) (named_row file row (chosen ws schema) (length schema) (wanted_at ws schema) ts)
row-agrees ws file row schema ts = by (length ts == length schema) refl where
  by : (b : Bool) → (length ts == length schema) ≡ b → Agrees (chosen ws) (read_row file row schema ts) (named_row file row (chosen ws schema) (length schema) (wanted_at ws schema) ts)
  by true e =
      let n : length ts ≡ length schema = grind (arith, nat_tests) in
      rw (e, fields-chosen ws (length schema) ts n) (fields-agree ws file row 1 1 schema ts n)
  by false e = rw e (λ s. refl)

-- rows with so many values each
abbrev Wide : ℕ → List (List AnyValue) → Type 0
Wide n [] = ⊤
Wide n (r ∷ rs) = (length r ≡ n) × Wide n rs

-- rows agree, and have as many values as the schema
abbrev RowsAgree : {E : Type 0} → (E → Type 0) → List Bool → ℕ → Result (List (List AnyValue)) E → Result (List (List AnyValue)) E → Type 0
RowsAgree P ws n (Ok rows) r = (r ≡ Ok (map (chosen ws) rows)) × Wide n rows
RowsAgree P ws n (Err m) r = P m → r ≡ Err m

-- one more row in front
row-in-front : (ws : List Bool) (n : ℕ) (a b : Result (List AnyValue) Misfit) (rest named : Result (List (List AnyValue)) Misfit) → Agrees (chosen ws) a b → ((vs : List AnyValue) → a ≡ Ok vs → length vs ≡ n) → RowsAgree IsOfRow ws n rest named → RowsAgree IsOfRow ws n (after a rest) (after b named)
row-in-front ws n (Err m) b rest named h w r = λ s. rw (h s) refl
row-in-front ws n (Ok vs) b (Ok rows) named h w r = (rw (h, r.0) refl, (w vs refl, r.1))
row-in-front ws n (Ok vs) b (Err m) named h w r = λ s. rw (h, r s) refl

-- all rows agree
rows-agree : (ws : List Bool) (file row : ℕ) (schema : List Field) (recs : Records) → RowsAgree IsOfRow ws (length schema) (read_rows file row schema recs) (named_rows file row (chosen ws schema) (length schema) (wanted_at ws schema) recs)
rows-agree ws file row schema [] = (refl, tt)
rows-agree ws file row schema (r ∷ rs) =
    row-in-front ws (length schema) (read_row file row schema r) (named_row file row (chosen ws schema) (length schema) (wanted_at ws schema) r) (read_rows file (row + 1) schema rs) (named_rows file (row + 1) (chosen ws schema) (length schema) (wanted_at ws schema) rs)
    (row-agrees ws file row schema r) (λ vs e. length-row file row schema r vs _ refl e) (rows-agree ws file (row + 1) schema rs)

-- so do those behind a header
wanted-agree : (ws : List Bool) (file : ℕ) (wanted : Option ℕ) (schema : List Field) (recs : Records) → AreFound schema → RowsAgree IsOfRow ws (length schema) (wanted_rows file wanted schema recs) (wanted_named_rows file wanted (chosen ws schema) recs)
wanted-agree ws file wanted schema [] found = λ s. absurd s
wanted-agree ws file wanted schema (names ∷ rs) found = by (is_header schema names) refl where
  by : (b : Bool) → is_header schema names ≡ b → RowsAgree IsOfRow ws (length schema) (wanted_rows file wanted schema (names ∷ rs)) (wanted_named_rows file wanted (chosen ws schema) (names ∷ rs))
  by false e = rw e (λ s. absurd s)
  by true e =
      let own : names ≡ map (λ f. f.name) schema = header-names schema names e in
      let places : places_of file 1 (chosen ws schema) names ≡ Ok (wanted_at ws schema) = rw own (places-chosen ws 1 1 file 1 schema (map (λ f. f.name) schema) (range_with_len 0 (length schema)) found) in
      let many : length names ≡ length schema = ap length own ∙ length-map schema (λ f. f.name) in
      rw (e, places, many) (rows-agree ws file 1 schema (wanted_of wanted rs))

-- ---- a file

-- what stops a file elsewhere
abbrev Elsewhere : Stop → Type 0
Elsewhere s = StopsElsewhere (Some s)

-- numbered rows agree
numbers-agree : (ws : List Bool) (n : ℕ) (index : Option (List ℕ × ℕ)) (given : ℕ) (read named : Result (List (List AnyValue)) Misfit) → RowsAgree IsOfRow ws n read named → RowsAgree Elsewhere ws n (numbered_rows index given read) (numbered_rows index given named)
numbers-agree ws n index given (Err m) named h = λ s. rw (h s) refl
numbers-agree ws n index given (Ok rows) named h = by (is_numbered index given (length rows)) refl where
  many : length (map (chosen ws) rows) ≡ length rows
  many = length-map rows (chosen ws)

  by : (b : Bool) → is_numbered index given (length rows) ≡ b → RowsAgree Elsewhere ws n (numbered_rows index given (Ok rows)) (numbered_rows index given named)
  by true e = rw (e, h.0, many, e) (refl, h.1)
  by false e = rw (e, h.0, many, e) (λ s. refl)

-- a file's rows agree
file-agrees : (ws : List Bool) (options : CsvReadOptions) (schema : List Field) (at : SourcePlace) (text : Option (List ℕ)) → AreFound schema → RowsAgree Elsewhere ws (length schema) (file_rows options schema at text) (named_file_rows options (chosen ws schema) at text)
file-agrees ws options schema at None found = λ s. refl
file-agrees ws options schema at (Some text) found = by (nat_lt MOST_FILE_BYTES (length text)) refl where
  by : (b : Bool) → nat_lt MOST_FILE_BYTES (length text) ≡ b → RowsAgree Elsewhere ws (length schema) (file_rows options schema at (Some text)) (named_file_rows options (chosen ws schema) at (Some text))
  by true e = rw e (λ s. refl)
  by false e = rw e (numbers-agree ws (length schema) options.row_index at.rows (text_rows at.file (wanted_after options.n_rows at.rows) schema text) (named_text_rows at.file (wanted_after options.n_rows at.rows) (chosen ws schema) text)
      (wanted-agree ws at.file (wanted_after options.n_rows at.rows) schema (records default_config (strip_bom text)) found))

-- ---- columns of rows

-- the columns of what is wanted of rows
values-chosen : (ws : List Bool) (fs : List Field) (done rest : List (List AnyValue)) → values_from 0 (chosen ws fs) (map (chosen ws) done) ≡ chosen ws (values_from 0 fs done) → Wide (length fs) rest
    → values_from 0 (chosen ws fs) (map (chosen ws) (done ++ rest)) ≡ chosen ws (values_from 0 fs (done ++ rest))
values-chosen ws fs done [] h w = rw (append-nil done) h
values-chosen ws fs done (v ∷ vs) h w =
    let more : values_from 0 (chosen ws fs) (map (chosen ws) (done ++ (v ∷ []))) ≡ chosen ws (values_from 0 fs (done ++ (v ∷ []))) =
    ap (values_from 0 (chosen ws fs)) (map-append (chosen ws) done (v ∷ []))
    ∙ sym (values-push (chosen ws fs) (map (chosen ws) done) (chosen ws v) (same-count ws v fs w.0))
    ∙ ap (with_row (chosen ws v)) h ∙ chosen-row ws v (values_from 0 fs done) ∙ ap (chosen ws) (values-push fs done v w.0) in
    let all : done ++ (v ∷ []) ++ vs ≡ done ++ (v ∷ vs) = append_assoc done (v ∷ []) vs in
    subst (λ (t : List (List AnyValue)). values_from 0 (chosen ws fs) (map (chosen ws) t) ≡ chosen ws (values_from 0 fs t)) all (values-chosen ws fs (done ++ (v ∷ [])) vs more w.1)

rows-chosen : (ws : List Bool) (fs : List Field) (rows : List (List AnyValue)) → Wide (length fs) rows → values_from 0 (chosen ws fs) (map (chosen ws) rows) ≡ chosen ws (values_from 0 fs rows)
rows-chosen ws fs rows w = values-chosen ws fs [] rows (values-none 0 (chosen ws fs) ∙ chosen-none ws fs) w

columns-chosen : (ws : List Bool) (fs : List Field) (rows : List (List AnyValue)) → Wide (length fs) rows → (flagged_frame (chosen ws fs) (map (chosen ws) rows)).columns ≡ chosen ws (flagged_frame fs rows).columns
columns-chosen ws fs rows w =
    sym (columns-flagged 0 (chosen ws fs) (map (chosen ws) rows)) ∙ ap (columns_of (chosen ws fs)) (rows-chosen ws fs rows w) ∙ chosen-columns ws fs (values_from 0 fs rows) ∙ ap (chosen ws) (columns-flagged 0 fs rows)

-- ---- chunks

-- the frame of what is wanted of rows is that of the rows, narrowed
frame-chosen : (ws : List Bool) (options : CsvReadOptions) (schema : List Field) (file : List ℕ) (given : ℕ) (rows : List (List AnyValue)) → length ws ≤ length schema → Wide (length schema) rows
    → source_frame options (chosen ws schema) file given (map (chosen ws) rows) ≡ narrowed_frame (source_wanted options ws) (source_frame options schema file given rows)
frame-chosen ws options schema file given rows few w =
    let whole : List ColumnData = (flagged_frame schema rows).columns in
    let made : ℕ → List ColumnData → FrameData = λ n cs. record { height = n; columns = with_first (option_map (index_column given n) options.row_index) (with_last cs (option_map (path_column file n) options.include_file_path)) } in
    (λ i. made (length-map rows (chosen ws) i) (columns-chosen ws schema rows w i))
    ∙ ap (λ (cs : List ColumnData). let f : FrameData = record { height = length rows; columns = cs } in f)
    (sym (wanted-ends options ws (index_column given (length rows)) whole (option_map (path_column file (length rows)) options.include_file_path) (omega (arith, few, length-flagged schema rows))))

-- pieces of what is wanted of rows
pieces-chosen : (ws : List Bool) (most n : ℕ) (rows : List (List AnyValue)) → pieces_within most n (map (chosen ws) rows) ≡ map (map (chosen ws)) (pieces_within most n rows)
pieces-chosen ws zero n rows = refl
pieces-chosen ws (suc most) n [] = refl
pieces-chosen ws (suc most) n (r ∷ rs) =
    let rest : pieces_within most n (drop n (map (chosen ws) (r ∷ rs))) ≡ map (map (chosen ws)) (pieces_within most n (drop n (r ∷ rs))) = ap (pieces_within most n) (drop-map (chosen ws) n (r ∷ rs)) ∙ pieces-chosen ws most n (drop n (r ∷ rs)) in
    λ i. take-map (chosen ws) n (r ∷ rs) i ∷ rest i

pieces-mapped : (ws : List Bool) (n : ℕ) (rows : List (List AnyValue)) → pieces n (map (chosen ws) rows) ≡ map (map (chosen ws)) (pieces n rows)
pieces-mapped ws n rows = ap (λ (most : ℕ). pieces_within most n (map (chosen ws) rows)) (length-map rows (chosen ws)) ∙ pieces-chosen ws (length rows) n rows

-- rows of a width in front and behind
wide-take : (k n : ℕ) (rows : List (List AnyValue)) → Wide n rows → Wide n (take k rows)
wide-take zero n rows w = tt
wide-take (suc k) n [] w = tt
wide-take (suc k) n (r ∷ rs) w = (w.0, wide-take k n rs w.1)

wide-drop : (k n : ℕ) (rows : List (List AnyValue)) → Wide n rows → Wide n (drop k rows)
wide-drop zero n rows w = w
wide-drop (suc k) n [] w = tt
wide-drop (suc k) n (r ∷ rs) w = wide-drop k n rs w.1

-- pieces of rows of a width
abbrev AllWide : ℕ → List (List (List AnyValue)) → Type 0
AllWide n [] = ⊤
AllWide n (p ∷ ps) = Wide n p × AllWide n ps

pieces-wide : (most k n : ℕ) (rows : List (List AnyValue)) → Wide n rows → AllWide n (pieces_within most k rows)
pieces-wide zero k n rows w = tt
pieces-wide (suc most) k n [] w = tt
pieces-wide (suc most) k n (r ∷ rs) w = (wide-take k n (r ∷ rs) w, pieces-wide most k n (drop k (r ∷ rs)) (wide-drop k n (r ∷ rs) w))

-- the chunks of pieces
pieces-agree : (ws : List Bool) (options : CsvReadOptions) (schema : List Field) (file : List ℕ) (i given : ℕ) (ps : List (List (List AnyValue))) → length ws ≤ length schema → AllWide (length schema) ps
    → chunks_of_pieces options (chosen ws schema) file i given (map (map (chosen ws)) ps) ≡ narrowed_chunks (source_wanted options ws) (chunks_of_pieces options schema file i given ps)
pieces-agree ws options schema file i given [] few w = refl
pieces-agree ws options schema file i given (p ∷ ps) few w =
    let frame = frame-chosen ws options schema file given p few w.0 in
    let many : given + length (map (chosen ws) p) ≡ given + length p = ap (λ n. given + n) (length-map p (chosen ws)) in
    let rest : chunks_of_pieces options (chosen ws schema) file (i + 1) (given + length (map (chosen ws) p)) (map (map (chosen ws)) ps) ≡ narrowed_chunks (source_wanted options ws) (chunks_of_pieces options schema file (i + 1) (given + length p) ps) =
    ap (λ n. chunks_of_pieces options (chosen ws schema) file (i + 1) n (map (map (chosen ws)) ps)) many ∙ pieces-agree ws options schema file (i + 1) (given + length p) ps few w.1 in
    λ j. record { chunk_index = i % 2 ^ 32; frame = frame j } ∷ rest j

-- the chunks of a file
chunks-chosen : (ws : List Bool) (options : CsvReadOptions) (schema : List Field) (file : List ℕ) (at : SourcePlace) (rows : List (List AnyValue)) → length ws ≤ length schema → Wide (length schema) rows
    → file_chunks options (chosen ws schema) file at (map (chosen ws) rows) ≡ narrowed_chunks (source_wanted options ws) (file_chunks options schema file at rows)
chunks-chosen ws options schema file at rows few w =
    ap (chunks_of_pieces options (chosen ws schema) file at.chunks at.rows) (pieces-mapped ws options.chunk_size rows)
    ∙ pieces-agree ws options schema file at.chunks at.rows (pieces options.chunk_size rows) few (pieces-wide (length rows) options.chunk_size (length schema) rows w)

-- the next place is the same
behind-chosen : (ws : List Bool) (options : CsvReadOptions) (at : SourcePlace) (rows : List (List AnyValue)) → behind options at (map (chosen ws) rows) ≡ behind options at rows
behind-chosen ws options at rows =
    let many : length (pieces options.chunk_size (map (chosen ws) rows)) ≡ length (pieces options.chunk_size rows) = ap length (pieces-mapped ws options.chunk_size rows) ∙ length-map (pieces options.chunk_size rows) (map (chosen ws)) in
    λ i. record { file = at.file + 1; chunks = at.chunks + many i; rows = at.rows + length-map rows (chosen ws) i }

-- ---- files

-- what is wanted of chunks, and of others behind them
wanted-then : (options : CsvReadOptions) (ws : List Bool) (front : List DataChunk) (rest : CsvChunks) → chunks_then (narrowed_chunks (source_wanted options ws) front) (wanted_chunks options ws rest) ≡ wanted_chunks options ws (chunks_then front rest)
wanted-then options ws front rest = ap (λ (t : List DataChunk). record { chunks = t; stop = rest.stop }) (sym (map-append _ front rest.chunks))

-- what comes only where rows are wanted
if-agree : (options : CsvReadOptions) (ws : List Bool) (b : Bool) (all own : CsvChunks) → StopsElsewhere (if b then all else no_more).stop → (StopsElsewhere all.stop → own ≡ wanted_chunks options ws all)
    → (if b then own else no_more) ≡ wanted_chunks options ws (if b then all else no_more)
if-agree options ws true all own s h = h s
if-agree options ws false all own s h = refl

-- what goes on behind the rows of a file
go-agree : (options : CsvReadOptions) (ws : List Bool) (n : ℕ) (read named : Result (List (List AnyValue)) Stop) (all own : List (List AnyValue) → CsvChunks) → RowsAgree Elsewhere ws n read named → StopsElsewhere (go_on read all).stop
    → ((rows : List (List AnyValue)) → Wide n rows → StopsElsewhere (all rows).stop → own (map (chosen ws) rows) ≡ wanted_chunks options ws (all rows)) → go_on named own ≡ wanted_chunks options ws (go_on read all)
go-agree options ws n (Err stop) named all own h s more = rw (h s) refl
go-agree options ws n (Ok rows) named all own h s more = rw h.0 (more rows h.1 s)

-- files agree from a place on
pub files-agree : (ws : List Bool) (options : CsvReadOptions) (schema : List Field) (files : Files) (at : SourcePlace) (names : List (List ℕ)) → AreFound schema → length ws ≤ length schema → StopsElsewhere (csv_chunks_from options schema files at names).stop
    → named_chunks_from options (chosen ws schema) files at names ≡ wanted_chunks options ws (csv_chunks_from options schema files at names)
files-agree ws options schema files at [] found few s = refl
files-agree ws options schema files at (name ∷ names) found few s =
    let cs : List Field = chosen ws schema in
    let all : List (List AnyValue) → CsvChunks = λ rows. chunks_then (file_chunks options schema name at rows) (csv_chunks_from options schema files (behind options at rows) names) in
    let own : List (List AnyValue) → CsvChunks = λ rows. chunks_then (file_chunks options cs name at rows) (named_chunks_from options cs files (behind options at rows) names) in
    let read : Result (List (List AnyValue)) Stop = file_rows options schema at (file_of files name) in
    let named : Result (List (List AnyValue)) Stop = named_file_rows options cs at (file_of files name) in
    if-agree options ws (is_any_wanted (wanted_after options.n_rows at.rows)) (go_on read all) (go_on named own) s (λ t.
    go-agree options ws (length schema) read named all own (file-agrees ws options schema at (file_of files name) found) t (λ rows w u.
    (λ i. chunks_then (chunks-chosen ws options schema name at rows few w i) (named_chunks_from options cs files (behind-chosen ws options at rows i) names))
    ∙ ap (chunks_then (narrowed_chunks (source_wanted options ws) (file_chunks options schema name at rows))) (files-agree ws options schema files (behind options at rows) names found few u)
    ∙ wanted-then options ws (file_chunks options schema name at rows) (csv_chunks_from options schema files (behind options at rows) names)))
