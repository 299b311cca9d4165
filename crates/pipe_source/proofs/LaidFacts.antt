-- Rows of which some fields are read, by their places.
use Rattle.std.proofs.Common.{◌≡◌, ◌≢◌, ◌∙◌, ◌≤◌, ◌<◌, ◌+◌, ◌-◌, ◌^◌, ◌==◌, ◌++◌, ℕ, zero, suc, Bool, true, false, List, [], ◌∷◌, length, map, take, drop, get_or, Option, Some, None, unwrap_or, Result, Ok, Err, refl, sym, ap, arith, eq-eqb}
use Rattle.std.proofs.lemmas.Bool.{ne_eqb}
use Rattle.std.proofs.lemmas.List.{drop_more, get_or-map, length-map, take-map, take_all}
use Rattle.csv.specs.Reading.{default_config, records, strip_bom}
use Rattle.pipe_columns.specs.declared.any_value.AnyValue.{AnyValue}
use Rattle.pipe_columns.specs.declared.schema.Field.{Field}
use Rattle.pipe_csv.specs.CsvRows.{Misfit, after, header, read_fields, read_row, read_rows, width}
use Rattle.pipe_csv.proofs.RowFacts.{row-same, row-width}
use Rattle.pipe_io.specs.declared.whole_file.TheConstants.{MOST_FILE_BYTES}
use Rattle.pipe_scan.specs.Records.{Records, cut, records_at}
use Rattle.pipe_scan.specs.Row.{Takes}
use Rattle.pipe_source.specs.CsvChunks.{wanted_of}
use Rattle.pipe_source.specs.LaidRows.{ChecksLaid}
use Rattle.pipe_source.specs.Layout.{ArePlacedIn, FitsAny, FitsLayout, LayoutFits, laid, picked}
use Rattle.pipe_source.specs.NamedRows.{fields_at, named_row, named_rows, named_text_rows, places_of, rows_behind, wanted_named_rows}
use Rattle.pipe_source.specs.declared.layout.Layout.{Layout}
use Rattle.pipe_source.proofs.FieldsLeft.{length-cut}
use Rattle.pipe_source.proofs.RowsLeft.{RowsLeft, drop-next, rows-more, take-first}
use Rattle.pipe_source.proofs.TextRows.{records-few, wanted-most}

-- ---- a row

-- as many fields as places
pub length-fields_at : (places : List ℕ) (texts : List (List ℕ)) → length (fields_at places texts) ≡ length places
length-fields_at places texts = length-map places (λ place. get_or texts place [])

-- the field at the next place, and those behind it
pub place-here : (places : List ℕ) (texts : List (List ℕ)) (i : ℕ) (t : List ℕ) → i < length places → get_or texts (get_or places i 0) [] ≡ t → drop i (fields_at places texts) ≡ t ∷ drop (i + 1) (fields_at places texts)
place-here places texts i t h e =
    let few : i < length (fields_at places texts) = omega (arith, length-fields_at places texts, h) in
    drop_more (fields_at places texts) i [] few
    ∙ ap (λ (x : List ℕ). x ∷ drop (i + 1) (fields_at places texts)) (get_or-map (λ place. get_or texts place []) places i 0 [] h ∙ e)

-- a record of the layout's width has the fields at its places
pub picked-same : (l : Layout) (texts : List (List ℕ)) → length texts ≡ l.count → picked l texts ≡ fields_at l.places.items texts
picked-same l texts h = rw (eq-eqb (length texts) l.count h) refl

-- any other is no row
pub picked-other : (file row : ℕ) (cs : List Field) (l : Layout) (texts : List (List ℕ)) → FitsLayout cs l → length texts ≢ l.count → read_row file row cs (picked l texts) ≡ Err (width file row)
picked-other file row cs l texts fit h =
    rw (ne_eqb (length texts) l.count h) (row-width file row cs ([] ∷ fields_at l.places.items texts) (λ e. absurd (omega (arith, e, length-fields_at l.places.items texts, fit.many))))

-- so a row is read as that of what is picked
picked-row : (file row : ℕ) (cs : List Field) (l : Layout) (texts : List (List ℕ)) → FitsLayout cs l → named_row file row cs l.count l.places.items texts ≡ read_row file row cs (picked l texts)
picked-row file row cs l texts fit = by (length texts == l.count) refl where
  by : (b : Bool) → (length texts == l.count) ≡ b → named_row file row cs l.count l.places.items texts ≡ read_row file row cs (picked l texts)
  by true h = rw h (sym (row-same file row cs (fields_at l.places.items texts) (length-fields_at l.places.items texts ∙ fit.many)))
  by false h = rw h (sym (row-width file row cs ([] ∷ fields_at l.places.items texts) (λ e. absurd (omega (arith, e, length-fields_at l.places.items texts, fit.many)))))

-- a row in the text of the layout's width
pub picked-plain : (l : Layout) (text : List ℕ) (start count : ℕ) (ends : List ℕ) → count ≡ l.count → length ends ≡ l.count → picked l (cut text start (take count ends)) ≡ fields_at l.places.items (cut text start ends)
picked-plain l text start count ends h e =
    ap (λ (t : List ℕ). picked l (cut text start t)) (take_all count ends (omega (arith, h, e)))
    ∙ picked-same l (cut text start ends) (length-cut text start ends ∙ e)

-- ---- rows

-- rows are read as those of what is picked
pub picked-rows : (file row : ℕ) (cs : List Field) (l : Layout) (recs : Records) → FitsLayout cs l → named_rows file row cs l.count l.places.items recs ≡ read_rows file row cs (laid (Some l) recs)
picked-rows file row cs l [] fit = refl
picked-rows file row cs l (r ∷ rs) fit = λ i. after (picked-row file row cs l r fit i) (picked-rows file (row + 1) cs l rs fit i)

-- a text without a record has no header
pub names-none : (file : ℕ) (wanted : Option ℕ) (cs : List Field) (recs : Records) → recs ≡ [] → wanted_named_rows file wanted cs recs ≡ Err (header file)
names-none file wanted cs recs e = rw e refl

-- a header without the columns stops all rows
pub names-other : (file : ℕ) (wanted : Option ℕ) (cs : List Field) (recs more : Records) (names : List (List ℕ)) (m : Misfit) → recs ≡ names ∷ more → places_of file 1 cs names ≡ Err m → wanted_named_rows file wanted cs recs ≡ Err m
names-other file wanted cs recs more names m e h = rw (e, h) refl

-- the wanted rows stand behind the names
names-same : (file : ℕ) (wanted : Option ℕ) (cs : List Field) (recs more : Records) (names : List (List ℕ)) (places : List ℕ) → recs ≡ names ∷ more → places_of file 1 cs names ≡ Ok places → wanted_named_rows file wanted cs recs ≡ named_rows file 1 cs (length names) places (wanted_of wanted more)
names-same file wanted cs recs more names places e h = rw (e, h) refl

-- the wanted rows of a text are the first of the records behind its header
pub names-read : (file : ℕ) (wanted : Option ℕ) (cs : List Field) (text : List ℕ) (start begin : ℕ) (names : List (List ℕ)) (l : Layout)
    → records_at text start ≡ records default_config (strip_bom text) → Takes text start begin names → places_of file 1 cs names ≡ Ok l.places.items → l.count ≡ length names → FitsLayout cs l → length text ≤ MOST_FILE_BYTES
    → named_text_rows file wanted cs text ≡ read_rows file 1 cs (take (unwrap_or wanted (2 ^ 64 - 1)) (laid (Some l) (records_at text begin)))
names-read file wanted cs text start begin names l r t h n fit small =
    let most : ℕ = unwrap_or wanted (2 ^ 64 - 1) in
    let more : Records = records_at text begin in
    let recs : records default_config (strip_bom text) ≡ names ∷ more = sym r ∙ t.0 in
    names-same file wanted cs (records default_config (strip_bom text)) more names l.places.items recs h
    ∙ (λ i. named_rows file 1 cs (sym n i) l.places.items (wanted-most wanted more (omega (arith, records-few text begin, small)) i))
    ∙ picked-rows file 1 cs l (take most more) fit
    ∙ ap (read_rows file 1 cs) (sym (take-map (picked l) most more))

-- ---- rows that were looked over

-- the first rows of a text read, and the rest of its records stand from a place on
pub record CheckedLaid (l : Layout) (file : ℕ) (cs : List Field) (text : List ℕ) (at most row cursor : ℕ) : Type 0 where
  pub done : List (List AnyValue)
  pub rows : RowsLeft file cs (read_rows file 1 cs (take most (laid (Some l) (records_at text at)))) row done (take (most - row) (laid (Some l) (records_at text cursor)))
  pub next : records_at text cursor ≡ drop row (records_at text at)

-- what is picked of a record and of those behind it
pub laid-next : (l : Layout) (recs more : Records) (r : List (List ℕ)) → recs ≡ r ∷ more → laid (Some l) recs ≡ picked l r ∷ laid (Some l) more
laid-next l recs more r e = ap (laid (Some l)) e

-- one row more
pub checked-laid : (l : Layout) (file : ℕ) (cs : List Field) (text : List ℕ) (at most row cursor next : ℕ) → CheckedLaid l file cs text at most row cursor → row < most → ChecksLaid (Some l) file (row + 1) cs text cursor next true → CheckedLaid l file cs text at most (row + 1) next
checked-laid l file cs text at most row cursor next d h r =
    let recs = records_at text cursor in
    let more = records_at text next in
    let first = take-first most row (laid (Some l) recs) (laid (Some l) more) (picked l r.1.0) h (laid-next l recs more r.1.0 r.1.1) in record {
      done = d.done ++ (r.0 ∷ []);
      rows = rows-more file cs _ row d.done _ _ (picked l r.1.0) r.0 d.rows first r.1.2;
      next = drop-next row (records_at text at) recs more r.1.0 d.next r.1.1;
    }

-- columns fit the layout of their file, where it has one
pub fits-any : (by_name : Bool) (cs : List Field) (layout : Option Layout) → LayoutFits cs by_name layout → FitsAny cs layout
fits-any by_name cs None fit = tt
fits-any by_name cs (Some l) fit = fit.1
