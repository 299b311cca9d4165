-- The rows of a text: its header, the rows that are wanted, and their pieces.
use Rattle.std.proofs.Common.{◌≡◌, ◌∙◌, ◌≤◌, ◌+◌, ◌-◌, ◌^◌, ◌==◌, ℕ, zero, suc, List, [], ◌∷◌, length, take, drop, Bool, true, false, Option, Some, None, unwrap_or, Result, Ok, Err, refl, sym, ap, arith}
use Rattle.std.specs.Option.{ok_or}
use Rattle.std.proofs.lemmas.List.{length-drop, length-map, length-take, take_all}
use Rattle.std.specs.List.{drop-map}
use Rattle.csv.specs.Reading.{default_config, records, strip_bom}
use Rattle.csv.specs.declared.parser.State.TheVariants as st
use Rattle.pipe_columns.specs.declared.any_value.AnyValue.{AnyValue}
use Rattle.pipe_columns.specs.declared.schema.Field.{Field}
use Rattle.pipe_csv.specs.Fields.{read_field}
use Rattle.pipe_csv.specs.CsvRows.{Misfit, after, field, header, is_header, read_fields, read_row, read_rows, width}
use Rattle.pipe_csv.proofs.ReadFacts.{length-rows}
use Rattle.pipe_csv.proofs.ReadFacts.{after-ok, same_Ok}
use Rattle.pipe_io.specs.declared.whole_file.TheConstants.{MOST_FILE_BYTES}
use Rattle.pipe_scan.specs.Records.{Records, records_at}
use Rattle.pipe_scan.specs.Row.{Takes}
use Rattle.pipe_scan.proofs.RecordList.{length-records}
use Rattle.pipe_source.specs.CsvChunks.{text_rows, wanted_of, wanted_rows}
use Rattle.pipe_source.specs.LaidRows.{AreLaidAt}
use Rattle.pipe_source.specs.Layout.{laid, picked}
use Rattle.pipe_source.specs.declared.layout.Layout.{Layout}

-- a text has no more records from a place on than bytes
pub records-few : (text : List ℕ) (at : ℕ) → length (records_at text at) ≤ length text
records-few text at = omega (arith, length-records default_config (length (drop at text) + 1) st.StartRecord (drop at text) tt, length-drop at text)

-- what is read of some fields of records is as many
pub length-laid : (layout : Option Layout) (recs : Records) → length (laid layout recs) ≡ length recs
length-laid None recs = refl
length-laid (Some l) recs = length-map recs (picked l)

-- a text without a record has no header
pub header-none : (file : ℕ) (wanted : Option ℕ) (fs : List Field) (recs : Records) → recs ≡ [] → wanted_rows file wanted fs recs ≡ Err (header file)
header-none file wanted fs recs e = rw e refl

-- a first record that isn't the names is no header
pub header-other : (file : ℕ) (wanted : Option ℕ) (fs : List Field) (recs more : Records) (r : List (List ℕ)) → recs ≡ r ∷ more → is_header fs r ≡ false → wanted_rows file wanted fs recs ≡ Err (header file)
header-other file wanted fs recs more r e h = rw (e, h) refl

-- the wanted rows stand behind the names
pub header-same : (file : ℕ) (wanted : Option ℕ) (fs : List Field) (recs more : Records) (r : List (List ℕ)) → recs ≡ r ∷ more → is_header fs r ≡ true → wanted_rows file wanted fs recs ≡ read_rows file 1 fs (wanted_of wanted more)
header-same file wanted fs recs more r e h = rw (e, h) refl

-- where all rows are wanted, so many are as many as there are
pub wanted-most : (wanted : Option ℕ) (recs : Records) → length recs ≤ 2 ^ 64 - 1 → wanted_of wanted recs ≡ take (unwrap_or wanted (2 ^ 64 - 1)) recs
wanted-most None recs h = sym (take_all (2 ^ 64 - 1) recs h)
wanted-most (Some n) recs h = refl

-- as many of a list as its front has
take-front : (m : ℕ) (recs : Records) → take (length (take m recs)) recs ≡ take m recs
take-front zero recs = refl
take-front (suc m) [] = refl
take-front (suc m) (r ∷ rs) = ap (λ (t : Records). r ∷ t) (take-front m rs)

-- what reads has a value, wherever it stands
ok-anywhere : (o : Option AnyValue) (a b : Misfit) (v : AnyValue) → ok_or o a ≡ Ok v → ok_or o b ≡ Ok v
ok-anywhere None a b v e = cc
ok-anywhere (Some w) a b v e = ap Ok (same_Ok {E = Misfit} w v e)

-- what reads in front, and what reads after it
pub after-parts : {A : Type 0} (a : Result A Misfit) (rest : Result (List A) Misfit) (first : A) (more all : List A) → a ≡ Ok first → rest ≡ Ok more → all ≡ first ∷ more → after a rest ≡ Ok all
after-parts a rest first more all e h g = rw (e, h, g) refl

-- the fields of a row read alike in any row
fields-anywhere : (file row f r column : ℕ) (fs : List Field) (ts : List (List ℕ)) (vs : List AnyValue) → read_fields file row column fs ts ≡ Ok vs → read_fields f r column fs ts ≡ Ok vs
fields-anywhere file row f r column [] ts vs e = ap Ok (same_Ok {E = Misfit} [] vs e)
fields-anywhere file row f r column (x ∷ fs) [] vs e = ap Ok (same_Ok {E = Misfit} [] vs e)
fields-anywhere file row f r column (x ∷ fs) (t ∷ ts) vs e =
    let parts = after-ok (ok_or (read_field x.dtype t) (field file row column)) (read_fields file row (column + 1) fs ts) vs e in
    after-parts (ok_or (read_field x.dtype t) (field f r column)) (read_fields f r (column + 1) fs ts) parts.0 parts.1 vs
    (ok-anywhere (read_field x.dtype t) (field file row column) (field f r column) parts.0 parts.2) (fields-anywhere file row f r (column + 1) fs ts parts.1 parts.3) parts.4

-- a row reads alike as any row
row-anywhere : (file row f r : ℕ) (fs : List Field) (ts : List (List ℕ)) (vs : List AnyValue) (b : Bool) → (length ts == length fs) ≡ b → read_row file row fs ts ≡ Ok vs → read_row f r fs ts ≡ Ok vs
row-anywhere file row f r fs ts vs true s e = let read : read_fields file row 1 fs ts ≡ Ok vs = rw s at e in rw s (fields-anywhere file row f r 1 fs ts vs read)
row-anywhere file row f r fs ts vs false s e = let read : Err (width file row) ≡ Ok vs = rw s at e in cc

-- rows read alike from any row on
pub rows-anywhere : (file row f r : ℕ) (fs : List Field) (recs : Records) (rows : List (List AnyValue)) → read_rows file row fs recs ≡ Ok rows → read_rows f r fs recs ≡ Ok rows
rows-anywhere file row f r fs [] rows e = ap Ok (same_Ok {E = Misfit} [] rows e)
rows-anywhere file row f r fs (x ∷ xs) rows e =
    let parts = after-ok (read_row file row fs x) (read_rows file (row + 1) fs xs) rows e in
    after-parts (read_row f r fs x) (read_rows f (r + 1) fs xs) parts.0 parts.1 rows (row-anywhere file row f r fs x parts.0 _ refl parts.2) (rows-anywhere file (row + 1) f (r + 1) fs xs parts.1 parts.3) parts.4

-- rows that were looked over stand in the text
pub laid-placed : (file most count : ℕ) (layout : Option Layout) (fs : List Field) (text : List ℕ) (at : ℕ) (rows : List (List AnyValue)) → read_rows file 1 fs (take most (laid layout (records_at text at))) ≡ Ok rows → length rows ≡ count → at ≤ length text → AreLaidAt layout fs text at count rows
laid-placed file most count layout fs text at rows e n h =
    let recs : Records = laid layout (records_at text at) in
    let size : length rows ≡ length (take most recs) = length-rows file 1 fs (take most recs) rows e in
    let same : take count recs ≡ take most recs = ap (λ (k : ℕ). take k recs) (sym n ∙ size) ∙ take-front most recs in
    record {
      read = ap (read_rows 1 1 fs) same ∙ rows-anywhere file 1 1 1 fs (take most recs) rows e;
      size = n;
      within = h;
    }

-- there are no more of them than bytes
pub laid-few : (file most count : ℕ) (layout : Option Layout) (fs : List Field) (text : List ℕ) (at : ℕ) (rows : List (List AnyValue)) → read_rows file 1 fs (take most (laid layout (records_at text at))) ≡ Ok rows → length rows ≡ count → count ≤ length text
laid-few file most count layout fs text at rows e n =
    omega (arith, length-rows file 1 fs (take most (laid layout (records_at text at))) rows e, n, length-take most (laid layout (records_at text at)), length-laid layout (records_at text at), records-few text at)

-- the first of some rows that read
front-reads : (n file row : ℕ) (fs : List Field) (recs : Records) (rows : List (List AnyValue)) → read_rows file row fs recs ≡ Ok rows → read_rows file row fs (take n recs) ≡ Ok (take n rows)
front-reads zero file row fs recs rows e = refl
front-reads (suc n) file row fs [] rows e = let none : [] ≡ rows = same_Ok {E = Misfit} [] rows e in rw (← none) refl
front-reads (suc n) file row fs (x ∷ xs) rows e =
    let parts = after-ok (read_row file row fs x) (read_rows file (row + 1) fs xs) rows e in
    after-parts (read_row file row fs x) (read_rows file (row + 1) fs (take n xs)) parts.0 (take n parts.1) (take (suc n) rows) parts.2 (front-reads n file (row + 1) fs xs parts.1 parts.3) (ap (take (suc n)) parts.4)

-- the others
back-reads : (n file row : ℕ) (fs : List Field) (recs : Records) (rows : List (List AnyValue)) → read_rows file row fs recs ≡ Ok rows → read_rows file row fs (drop n recs) ≡ Ok (drop n rows)
back-reads zero file row fs recs rows e = e
back-reads (suc n) file row fs [] rows e = let none : [] ≡ rows = same_Ok {E = Misfit} [] rows e in rw (← none) refl
back-reads (suc n) file row fs (x ∷ xs) rows e =
    let parts = after-ok (read_row file row fs x) (read_rows file (row + 1) fs xs) rows e in
    rows-anywhere file (row + 1) file row fs (drop n xs) (drop (suc n) rows) (back-reads n file (row + 1) fs xs parts.1 parts.3 ∙ ap (λ (t : List (List AnyValue)). Ok (drop (suc n) t)) (sym parts.4))

-- the first of the first
take-take : (n m : ℕ) (recs : Records) → n ≤ m → take n (take m recs) ≡ take n recs
take-take zero m recs h = refl
take-take (suc n) zero recs h = absurd (omega arith)
take-take (suc n) (suc m) [] h = refl
take-take (suc n) (suc m) (r ∷ rs) h = ap (λ (t : Records). r ∷ t) (take-take n m rs (omega arith))

-- the others of the first
drop-take : (n m : ℕ) (recs : Records) → n ≤ m → drop n (take m recs) ≡ take (m - n) (drop n recs)
drop-take zero m recs h = let same : m - 0 ≡ m = omega arith in rw same refl
drop-take (suc n) zero recs h = absurd (omega arith)
drop-take (suc n) (suc m) [] h = nothing (m - n) where
  nothing : (k : ℕ) → [] ≡ take {A = List (List ℕ)} (suc m - suc n) []
  nothing k = none (suc m - suc n) where
    none : (j : ℕ) → [] ≡ take {A = List (List ℕ)} j []
    none zero = refl
    none (suc j) = refl
drop-take (suc n) (suc m) (r ∷ rs) h = let same : suc m - suc n ≡ m - n = omega arith in rw same (drop-take n m rs (omega arith))

-- what is read of the others
laid-drop : (layout : Option Layout) (n : ℕ) (recs : Records) → laid layout (drop n recs) ≡ drop n (laid layout recs)
laid-drop None n recs = refl
laid-drop (Some l) n recs = sym (drop-map (picked l) n recs)

-- the first of some rows in a text
pub front-placed : (n left : ℕ) (layout : Option Layout) (fs : List Field) (text : List ℕ) (at : ℕ) (rows : List (List AnyValue)) → AreLaidAt layout fs text at left rows → n ≤ left → AreLaidAt layout fs text at n (take n rows)
front-placed n left layout fs text at rows a h = record {
  read = ap (read_rows 1 1 fs) (sym (take-take n left (laid layout (records_at text at)) h)) ∙ front-reads n 1 1 fs (take left (laid layout (records_at text at))) rows a.read;
  size = omega (arith, length-take n rows, a.size);
  within = a.within;
}

-- the others, from where they begin
pub back-placed : (n left : ℕ) (layout : Option Layout) (fs : List Field) (text : List ℕ) (at next : ℕ) (rows : List (List AnyValue)) → AreLaidAt layout fs text at left rows → n ≤ left → records_at text next ≡ drop n (records_at text at) → next ≤ length text → AreLaidAt layout fs text next (left - n) (drop n rows)
back-placed n left layout fs text at next rows a h e w = record {
  read = ap (λ (t : Records). read_rows 1 1 fs (take (left - n) t)) (ap (laid layout) e ∙ laid-drop layout n (records_at text at))
      ∙ ap (read_rows 1 1 fs) (sym (drop-take n left (laid layout (records_at text at)) h)) ∙ back-reads n 1 1 fs (take left (laid layout (records_at text at))) rows a.read;
  size = omega (arith, length-drop n rows, a.size);
  within = w;
}

-- the wanted rows of a text are the first of the records behind its header
pub header-read : (file : ℕ) (wanted : Option ℕ) (fs : List Field) (text : List ℕ) (start begin : ℕ) (names : List (List ℕ)) (is : Bool)
    → records_at text start ≡ records default_config (strip_bom text) → Takes text start begin names → is ≡ is_header fs names → is ≡ true → length text ≤ MOST_FILE_BYTES
    → text_rows file wanted fs text ≡ read_rows file 1 fs (take (unwrap_or wanted (2 ^ 64 - 1)) (records_at text begin))
header-read file wanted fs text start begin names is r t e h small =
    let same : is_header fs names ≡ true = sym e ∙ h in
    let recs : records default_config (strip_bom text) ≡ names ∷ records_at text begin = sym r ∙ t.0 in
    header-same file wanted fs (records default_config (strip_bom text)) (records_at text begin) names recs same
    ∙ ap (read_rows file 1 fs) (wanted-most wanted (records_at text begin) (omega (arith, records-few text begin, small)))
