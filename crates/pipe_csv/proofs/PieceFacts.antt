-- Pieces, and the columns of rows.
use Rattle.std.proofs.Common.{◌≡◌, ◌∙◌, ◌≤◌, ◌<◌, ◌+◌, ◌%◌, ◌^◌, ℕ, zero, suc, List, [], ◌∷◌, ◌++◌, length, take, drop, map, replicate, refl, sym, ap, arith, add-one}
use Rattle.std.specs.List.{All, sum_by}
use Rattle.std.proofs.lemmas.List.Elements.{All-cons, All-nil}
use Rattle.std.proofs.lemmas.List.{drop_all, drop_at, length-append, length-drop, length-take, map-append, take_all, take_at}
use Rattle.std.proofs.lemmas.List.Sums.{sum_by-cons}
use Rattle.pipe_columns.specs.declared.any_value.AnyValue.{AnyValue}
use Rattle.pipe_columns.specs.declared.schema.Field.{Field}
use Rattle.pipe_columns.specs.declared.data_chunk.DataChunk.{DataChunk}
use Rattle.pipe_columns.specs.Frame.{ColumnData, FitsSchema, columns_from, value_at}
use Rattle.pipe_csv.specs.CsvRows.{flagged, flagged_frame}
use Rattle.pipe_columns.specs.Pieces.{pieces, pieces_within}
use Rattle.pipe_csv.specs.Columns.{column_of, columns_of, values_from, with_row}

-- turns past the last piece change nothing
pub enough_turns : {A : Type 0} (m k n : ℕ) (xs : List A) → 0 < n → length xs ≤ m → length xs ≤ k → pieces_within m n xs ≡ pieces_within k n xs
enough_turns zero zero n xs p h g = refl
enough_turns zero (suc k) n [] p h g = refl
enough_turns zero (suc k) n (x ∷ xs) p h g = absurd (omega arith)
enough_turns (suc m) zero n [] p h g = refl
enough_turns (suc m) zero n (x ∷ xs) p h g = absurd (omega arith)
enough_turns (suc m) (suc k) n [] p h g = refl
enough_turns {A} (suc m) (suc k) n (x ∷ xs) p h g =
    ap (λ (t : List (List A)). take n (x ∷ xs) ∷ t) (enough_turns m k n (drop n (x ∷ xs)) p (omega (arith, length-drop n (x ∷ xs))) (omega (arith, length-drop n (x ∷ xs))))

-- columns by field are the columns of rows, with their flags
pub columns-flagged : (i : ℕ) (fs : List Field) (rows : List (List AnyValue)) → columns_of fs (values_from i fs rows) ≡ map flagged (columns_from i fs rows)
columns-flagged i [] rows = refl
columns-flagged i (f ∷ fs) rows = ap (λ (t : List ColumnData). column_of f (map (λ row. value_at row i) rows) ∷ t) (columns-flagged (i + 1) fs rows)

-- no row is one empty column a field
pub values-none : (i : ℕ) (fs : List Field) → values_from i fs [] ≡ replicate (length fs) []
values-none i [] = refl
values-none i (f ∷ fs) = ap (λ (t : List (List AnyValue)). [] ∷ t) (values-none (i + 1) fs)

-- there are as many columns as fields
pub length-values : (i : ℕ) (fs : List Field) (rows : List (List AnyValue)) → length (values_from i fs rows) ≡ length fs
length-values i [] rows = refl
length-values i (f ∷ fs) rows = ap (λ n. suc n) (length-values (i + 1) fs rows)

-- the first of the values from a place on stands there
pub value-here : (all : List AnyValue) (i : ℕ) (v : AnyValue) (vs : List AnyValue) → v ∷ vs ≡ drop i all → v ≡ value_at all i
value-here [] zero v vs e = cc
value-here [] (suc i) v vs e = cc
value-here (x ∷ xs) zero v vs e = cc
value-here (x ∷ xs) (suc i) v vs e = value-here xs i v vs e

-- the rest of the values from a place on
rest-here : (all : List AnyValue) (i : ℕ) (v : AnyValue) (vs : List AnyValue) → v ∷ vs ≡ drop i all → vs ≡ drop (suc i) all
rest-here [] zero v vs e = cc
rest-here [] (suc i) v vs e = cc
rest-here (x ∷ xs) zero v vs e = cc
rest-here (x ∷ xs) (suc i) v vs e = rest-here xs i v vs e

-- the rest of the values from a place on are those from the next place on
pub rest-next : (all : List AnyValue) (i : ℕ) (v : AnyValue) (vs : List AnyValue) → v ∷ vs ≡ drop i all → vs ≡ drop (i + 1) all
rest-next all i v vs e = rw add-one (rest-here all i v vs e)

-- the values of a row from a place on go to the ends of the columns from there on
values-at : (i : ℕ) (fs : List Field) (rows : List (List AnyValue)) (all vs : List AnyValue) → vs ≡ drop i all → length vs ≡ length fs → with_row vs (values_from i fs rows) ≡ values_from i fs (rows ++ (all ∷ []))
values-at i [] rows all [] e h = refl
values-at i [] rows all (v ∷ vs) e h = absurd (omega arith)
values-at i (f ∷ fs) rows all [] e h = absurd (omega arith)
values-at i (f ∷ fs) rows all (v ∷ vs) e h =
    let here : v ≡ value_at all i = value-here all i v vs e in
    let tail : vs ≡ drop (i + 1) all = rest-next all i v vs e in
    let one : map (λ row. value_at row i) (rows ++ (all ∷ [])) ≡ map (λ row. value_at row i) rows ++ (value_at all i ∷ []) = map-append (λ (row : List AnyValue). value_at row i) rows (all ∷ []) in
    ap (λ (t : List (List AnyValue)). (map (λ row. value_at row i) rows ++ (v ∷ [])) ∷ t) (values-at (i + 1) fs rows all vs tail (omega arith))
    ∙ ap (λ (x : AnyValue). (map (λ row. value_at row i) rows ++ (x ∷ [])) ∷ values_from (i + 1) fs (rows ++ (all ∷ []))) here
    ∙ ap (λ (c : List AnyValue). c ∷ values_from (i + 1) fs (rows ++ (all ∷ []))) (sym one)

-- one more row goes to the ends of the columns
pub values-push : (fs : List Field) (rows : List (List AnyValue)) (row : List AnyValue) → length row ≡ length fs → with_row row (values_from 0 fs rows) ≡ values_from 0 fs (rows ++ (row ∷ []))
values-push fs rows row h = values-at 0 fs rows row row refl h

-- columns of rows have the names and the types of their fields
names-kept : (i : ℕ) (fs : List Field) (rows : List (List AnyValue)) → map (λ (c : ColumnData). let f : Field = record { name = c.name; dtype = c.dtype } in f) (map flagged (columns_from i fs rows)) ≡ fs
names-kept i [] rows = refl
names-kept i (f ∷ fs) rows = ap (λ (t : List Field). f ∷ t) (names-kept (i + 1) fs rows)

-- the frame of rows has the names and the types of the schema
pub frame-fits : (fs : List Field) (rows : List (List AnyValue)) → FitsSchema fs (flagged_frame fs rows)
frame-fits fs rows = names-kept 0 fs rows
