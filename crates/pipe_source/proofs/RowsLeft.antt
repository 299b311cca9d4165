-- Reading rows, of which the rest is left.
use Rattle.std.proofs.Common.{◌≡◌, ◌∙◌, ◌≤◌, ◌<◌, ◌+◌, ◌-◌, ℕ, zero, suc, List, [], ◌∷◌, ◌++◌, length, take, drop, replicate, Vec, Global, vec_len, Result, Ok, Err, refl, ap, arith}
use Rattle.std.proofs.lemmas.List.{append-nil, length-append, length-drop, length-replicate, length-take}
use Rattle.pipe_columns.specs.declared.any_value.AnyValue.{AnyValue}
use Rattle.pipe_columns.specs.declared.schema.Field.{Field}
use Rattle.pipe_csv.specs.declared.csv_error.CsvError.{CsvError}
use Rattle.pipe_csv.specs.declared.csv_error.CsvError.TheVariants as ce
use Rattle.pipe_csv.specs.CsvRows.{Misfit, in_front, read_row, read_rows}
use Rattle.pipe_csv.specs.CsvError.{StopsBy}
use Rattle.pipe_csv.proofs.RowFacts.{front-front, front-none}
use Rattle.pipe_scan.specs.Records.{Records}
use Rattle.pipe_source.specs.Rows.{FirstReads, StopsFirst}

-- the first rows, before the rest of the records
pub record RowsLeft (file : ℕ) (fs : List Field) (whole : Result (List (List AnyValue)) Misfit) (i : ℕ) (done : List (List AnyValue)) (rest : Records) : Type 0 where
  pub count : length done ≡ i
  pub read : whole ≡ in_front done (read_rows file (i + 1) fs rest)

-- no row is read yet
pub rows-start : (file : ℕ) (fs : List Field) (rest : Records) → RowsLeft file fs (read_rows file 1 fs rest) 0 [] rest
rows-start file fs rest = record { count = refl; read = front-none (read_rows file 1 fs rest) }

-- a row that reads is one more
pub rows-more : (file : ℕ) (fs : List Field) (whole : Result (List (List AnyValue)) Misfit) (i : ℕ) (done : List (List AnyValue)) (rest more : Records) (r : List (List ℕ)) (values : List AnyValue)
    → RowsLeft file fs whole i done rest → rest ≡ r ∷ more → read_row file (i + 1) fs r ≡ Ok values → RowsLeft file fs whole (i + 1) (done ++ (values ∷ [])) more
rows-more file fs whole i done rest more r values d e h =
    let tail : Result (List (List AnyValue)) Misfit = read_rows file (i + 1 + 1) fs more in
    let step : read_rows file (i + 1) fs rest ≡ in_front (values ∷ []) tail = rw (e, h) refl in
    record {
      count = omega (arith, length-append {A = List AnyValue}, d.count);
      read = d.read ∙ ap (in_front done) step ∙ front-front done (values ∷ []) tail;
    }

-- a row that stops the reading
stop-front : (file : ℕ) (fs : List Field) (i : ℕ) (done : List (List AnyValue)) (rest more : Records) (r : List (List ℕ)) (m : Misfit) → rest ≡ r ∷ more → read_row file (i + 1) fs r ≡ Err m → in_front done (read_rows file (i + 1) fs rest) ≡ Err m
stop-front file fs i done rest more r m e h = rw (e, h) refl

-- an error stops what has the same misfit
pub stops-same : {X Y : Type 0} (e : CsvError) (a : Result X Misfit) (b : Result Y Misfit) → ((m : Misfit) → a ≡ Err m → b ≡ Err m) → StopsBy e a → StopsBy e b
stops-same (ce.Header file) a b f s = f _ s
stops-same (ce.Width file row) a b f s = f _ s
stops-same (ce.Field file row column) a b f s = f _ s
stops-same ce.Input a b f s = s
stops-same ce.TooLarge a b f s = s
stops-same ce.Memory a b f s = tt
stops-same (ce.Missing file) a b f s = s

-- what stops a row stops all
rows-stop : (file : ℕ) (fs : List Field) (whole : Result (List (List AnyValue)) Misfit) (i : ℕ) (done : List (List AnyValue)) (rest more : Records) (r : List (List ℕ)) (e : CsvError)
    → RowsLeft file fs whole i done rest → rest ≡ r ∷ more → StopsBy e (read_row file (i + 1) fs r) → StopsBy e whole
rows-stop file fs whole i done rest more r e d h s = stops-same e (read_row file (i + 1) fs r) whole (λ m k. d.read ∙ stop-front file fs i done rest more r m h k) s

-- the first of the records that are looked at
pub take-first : (most i : ℕ) (recs more : Records) (r : List (List ℕ)) → i < most → recs ≡ r ∷ more → take (most - i) recs ≡ r ∷ take (most - (i + 1)) more
take-first most i recs more r h e =
    let n : most - i ≡ suc (most - (i + 1)) = omega arith in
    rw (e, n) refl

-- want of memory stops anything
pub memory-stops : {X : Type 0} (e : CsvError) (read : Result X Misfit) → e ≡ ce.Memory → StopsBy e read
memory-stops e read h = rw h tt

-- an error of the first record stops all
pub first-stops : (file : ℕ) (fs : List Field) (whole : Result (List (List AnyValue)) Misfit) (most i : ℕ) (done : List (List AnyValue)) (recs : Records) (e : CsvError)
    → RowsLeft file fs whole i done (take (most - i) recs) → i < most → StopsFirst e file (i + 1) fs recs → StopsBy e whole
first-stops file fs whole most i done [] e d h s = memory-stops e whole s
first-stops file fs whole most i done (r ∷ more) e d h s = rows-stop file fs whole i done (take (most - i) (r ∷ more)) (take (most - (i + 1)) more) r e d (take-first most i (r ∷ more) more r h refl) s

-- a row that reads among rows that do
row-read : (file i : ℕ) (fs : List Field) (whole : Result (List (List AnyValue)) Misfit) (rows done : List (List AnyValue)) (rest more : Records) (r : List (List ℕ)) (o : Result (List AnyValue) Misfit)
    → RowsLeft file fs whole i done rest → whole ≡ Ok rows → rest ≡ r ∷ more → read_row file (i + 1) fs r ≡ o → (values : List AnyValue) × (read_row file (i + 1) fs r ≡ Ok values)
row-read file i fs whole rows done rest more r (Ok values) d w e h = (values, h)
row-read file i fs whole rows done rest more r (Err m) d w e h =
    let stop : whole ≡ Err m = d.read ∙ stop-front file fs i done rest more r m e h in
    cc

-- the next of rows that read does
pub next-reads : (file : ℕ) (fs : List Field) (whole : Result (List (List AnyValue)) Misfit) (rows done : List (List AnyValue)) (most i : ℕ) (recs : Records) → RowsLeft file fs whole i done (take (most - i) recs) → whole ≡ Ok rows → i < most → FirstReads file (i + 1) fs recs
next-reads file fs whole rows done most i [] d w h = tt
next-reads file fs whole rows done most i (r ∷ more) d w h = row-read file i fs whole rows done (take (most - i) (r ∷ more)) (take (most - (i + 1)) more) r (read_row file (i + 1) fs r) d w (take-first most i (r ∷ more) more r h refl) refl

-- no record is left
pub rows-over : (file : ℕ) (fs : List Field) (whole : Result (List (List AnyValue)) Misfit) (i : ℕ) (done : List (List AnyValue)) (rest : Records) → RowsLeft file fs whole i done rest → rest ≡ [] → whole ≡ Ok done
rows-over file fs whole i done rest d e =
    let none : read_rows file (i + 1) fs rest ≡ Ok [] = rw e refl in
    d.read ∙ ap (in_front done) none ∙ ap Ok (append-nil done)

-- no more than those are looked at
pub take-none : (most i : ℕ) (recs : Records) → most ≤ i → take (most - i) recs ≡ []
take-none most i recs h = let n : most - i ≡ 0 = omega arith in rw n refl

-- there is none to look at
pub take-end : (n : ℕ) (recs : Records) → recs ≡ [] → take n recs ≡ []
take-end zero recs e = refl
take-end (suc n) recs e = rw e refl

-- room that was lent and is back is as wide as before
pub same-room : (len width : ℕ) (lent all : List ℕ) → length lent ≡ width → length all ≡ width → len ≡ length all → length (take len (lent ++ drop (length lent) all)) ≡ width
same-room len width lent all h g e = omega (arith, length-take len (lent ++ drop (length lent) all), length-append lent (drop (length lent) all), length-drop (length lent) all)

-- columns of no values are as many as they are
pub fresh-width : (columns : Vec (List AnyValue) Global) (n : ℕ) → columns.items ≡ replicate n [] → vec_len columns ≡ n
fresh-width columns n e = omega (arith, ap length e, length-replicate n (let none : List AnyValue = [] in none), columns.ok.0)

-- rows that read are stopped by want of memory alone
pub only-memory : (e : CsvError) (whole : Result (List (List AnyValue)) Misfit) (rows : List (List AnyValue)) → whole ≡ Ok rows → StopsBy e whole → e ≡ ce.Memory
only-memory (ce.Header file) whole rows h s = cc
only-memory (ce.Width file row) whole rows h s = cc
only-memory (ce.Field file row column) whole rows h s = cc
only-memory ce.Input whole rows h s = absurd s
only-memory ce.TooLarge whole rows h s = absurd s
only-memory ce.Memory whole rows h s = refl
only-memory (ce.Missing file) whole rows h s = absurd s

-- so many rows were read, at the end
pub rows-all : (file : ℕ) (fs : List Field) (whole : Result (List (List AnyValue)) Misfit) (count i : ℕ) (done : List (List AnyValue)) (rest : Records) → RowsLeft file fs whole i done rest → i ≤ count → count ≤ i → length done ≡ count
rows-all file fs whole count i done rest d h g = omega (arith, d.count)

-- the records behind the next one
pub drop-next : (i : ℕ) (all recs more : Records) (r : List (List ℕ)) → recs ≡ drop i all → recs ≡ r ∷ more → more ≡ drop (i + 1) all
drop-next zero [] recs more r e h = cc
drop-next zero (x ∷ xs) recs more r e h = cc
drop-next (suc i) [] recs more r e h = cc
drop-next (suc i) (x ∷ xs) recs more r e h = let n : suc i + 1 ≡ suc (i + 1) = omega arith in rw n (drop-next i xs recs more r e h)
