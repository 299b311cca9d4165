-- The columns of rows.
use Rattle.std.proofs.Common.{◌≡◌, ◌∙◌, ℕ, zero, suc, ◌+◌, ◌<◌, ◌≤◌, true, false, List, [], ◌∷◌, ◌++◌, length, map, take, drop, get_or, refl, sym, ap, subst, arith}
use Rattle.std.specs.Cmp.Derive as derive
use Rattle.std.specs.List.{All}
use Rattle.std.proofs.lemmas.List.{append_assoc, append-nil, length-append, length-map, map-append, take_more}
use Rattle.std.proofs.lemmas.List.Elements.{All-cons, All-head, All-nil, All-tail}
use Rattle.std.proofs.lemmas.Bool.{eq-eqb}
use Rattle.pipe_columns.specs.declared.any_value.AnyValue.{AnyValue}
use Rattle.pipe_columns.specs.declared.data_type.DataType.{DataType}
use Rattle.pipe_columns.specs.declared.schema.Field.{Field}
use Rattle.pipe_columns.specs.AnyValue.{fits}
use Rattle.pipe_columns.specs.Frame.{all_fit, all_have_height, ColumnData, columns_from, ColumnsFit, value_at}
use Rattle.pipe_spill.specs.KeyTypes.{AreOfTypes}
use Rattle.pipe_groups.specs.declared.unfinished.Unfinished.{Unfinished}
use Rattle.pipe_groups.specs.Columns.{column_of_unfinished, columns_of_unfinished, types_of, with_rows, with_values}

-- ---- one more field

columns_from-push : (i : ℕ) (fields : List Field) (f : Field) (rows : List (List AnyValue))
    → columns_from i (fields ++ (f ∷ [])) rows ≡ columns_from i fields rows ++ columns_from (i + length fields) (f ∷ []) rows
columns_from-push i [] f rows = ap (λ (k : ℕ). columns_from k (f ∷ []) rows) (omega arith)
columns_from-push i (g ∷ gs) f rows = ap (λ (t : List ColumnData). columns_from i (g ∷ []) rows ++ t) (columns_from-push (i + 1) gs f rows
    ∙ ap (λ (k : ℕ). columns_from (i + 1) gs rows ++ columns_from k (f ∷ []) rows) (omega arith))

-- columns of no rows, with that of one more field
pub columns_from-more : (fields : List Field) (i : ℕ) (d : Field) → i < length fields
    → columns_from 0 (take i fields) [] ++ columns_from 0 (get_or fields i d ∷ []) [] ≡ columns_from 0 (take (i + 1) fields) []
columns_from-more fields i d lt =
    sym (ap (λ (fs : List Field). columns_from 0 fs []) (take_more fields i d lt) ∙ columns_from-push 0 (take i fields) (get_or fields i d) [])

-- a column of one more field, without values
pub opened-more : (cs : List Unfinished) (x : Unfinished) (fields : List Field) (i : ℕ) (f : Field) → i < length fields → f ≡ get_or fields i f
    → x.field.name ≡ f.name → x.field.dtype ≡ f.dtype → x.values.items ≡ [] → columns_of_unfinished cs ≡ columns_from 0 (take i fields) []
    → columns_of_unfinished (cs ++ x ∷ []) ≡ columns_from 0 (take (i + 1) fields) []
opened-more cs x fields i f lt e name dtype none before =
    let own : column_of_unfinished x ≡ record { name = f.name; dtype = f.dtype; sorted = false; values = [] } = rw (name, dtype, none) refl in
    map-append column_of_unfinished cs (x ∷ []) ∙ ap (λ (t : List ColumnData). t ++ column_of_unfinished x ∷ []) before ∙ ap (λ (y : ColumnData). columns_from 0 (take i fields) [] ++ y ∷ []) own
    ∙ ap (λ (g : Field). columns_from 0 (take i fields) [] ++ columns_from 0 (g ∷ []) []) e ∙ columns_from-more fields i f lt

-- ---- one more row

-- a value behind others
value-behind : (front : List AnyValue) (v : AnyValue) (vs : List AnyValue) → value_at (front ++ v ∷ vs) (length front) ≡ v
value-behind [] v vs = refl
value-behind (x ∷ xs) v vs = value-behind xs v vs

row-behind : (fields : List Field) (front vs : List AnyValue) (rows : List (List AnyValue)) (i : ℕ) → i ≡ length front → length vs ≡ length fields
    → columns_from i fields (rows ++ (front ++ vs) ∷ []) ≡ with_values vs (columns_from i fields rows)
row-behind [] front [] rows i e n = refl
row-behind [] front (v ∷ vs) rows i e n = absurd (omega (arith, n))
row-behind (f ∷ fs) front [] rows i e n = absurd (omega (arith, n))
row-behind (f ∷ fs) front (v ∷ vs) rows i e n =
    let at : List AnyValue → AnyValue = λ row. value_at row i in
    let here : map at (rows ++ (front ++ v ∷ vs) ∷ []) ≡ map at rows ++ v ∷ [] =
    map-append at rows ((front ++ v ∷ vs) ∷ []) ∙ ap (λ (x : AnyValue). map at rows ++ x ∷ []) (ap (value_at (front ++ v ∷ vs)) e ∙ value-behind front v vs) in
    let split : front ++ v ∷ vs ≡ (front ++ v ∷ []) ++ vs = sym (append_assoc front (v ∷ []) vs) in
    let rest : columns_from (i + 1) fs (rows ++ (front ++ v ∷ vs) ∷ []) ≡ with_values vs (columns_from (i + 1) fs rows) =
    ap (λ (row : List AnyValue). columns_from (i + 1) fs (rows ++ row ∷ [])) split
    ∙ row-behind fs (front ++ v ∷ []) vs rows (i + 1) (omega (arith, e, length-append front (v ∷ []))) (omega (arith, n)) in
    ap (λ (values : List AnyValue). record { name = f.name; dtype = f.dtype; sorted = false; values = values } ∷ columns_from (i + 1) fs (rows ++ (front ++ v ∷ vs) ∷ [])) here
    ∙ ap (λ (cs : List ColumnData). record { name = f.name; dtype = f.dtype; sorted = false; values = map at rows ++ v ∷ [] } ∷ cs) rest

-- the columns of rows and one more
pub row-more : (fields : List Field) (row : List AnyValue) (rows : List (List AnyValue)) → length row ≡ length fields
    → with_values row (columns_from 0 fields rows) ≡ columns_from 0 fields (rows ++ row ∷ [])
row-more fields row rows n = sym (row-behind fields [] row rows 0 refl n)

rows-behind : (fields : List Field) (rows done : List (List AnyValue)) → All (λ row. length row ≡ length fields) rows
    → with_rows rows (columns_from 0 fields done) ≡ columns_from 0 fields (done ++ rows)
rows-behind fields [] done h = ap (columns_from 0 fields) (sym (append-nil done))
rows-behind fields (row ∷ rows) done h =
    let P : List AnyValue → Type 0 = λ r. length r ≡ length fields in
    ap (with_rows rows) (row-more fields row done (All-head P row rows h)) ∙ rows-behind fields rows (done ++ row ∷ []) (All-tail P row rows h)
    ∙ ap (columns_from 0 fields) (append_assoc done (row ∷ []) rows)

-- the columns of rows that are put one by one
pub rows-put : (fields : List Field) (rows : List (List AnyValue)) → All (λ row. length row ≡ length fields) rows
    → with_rows rows (columns_from 0 fields []) ≡ columns_from 0 fields rows
rows-put fields rows h = rows-behind fields rows [] h

-- ---- types and heights

pub types-from : (i : ℕ) (fields : List Field) (rows : List (List AnyValue)) → types_of (columns_from i fields rows) ≡ map (λ f. f.dtype) fields
types-from i [] rows = refl
types-from i (f ∷ fs) rows = ap (λ (ts : List DataType). f.dtype ∷ ts) (types-from (i + 1) fs rows)

pub length-from : (i : ℕ) (fields : List Field) (rows : List (List AnyValue)) → length (columns_from i fields rows) ≡ length fields
length-from i [] rows = refl
length-from i (f ∷ fs) rows = ap suc (length-from (i + 1) fs rows)

-- each column has a value a row
pub heights : (i : ℕ) (fields : List Field) (rows : List (List AnyValue)) → all_have_height (length rows) (columns_from i fields rows) ≡ true
heights i [] rows = refl
heights i (f ∷ fs) rows = rw (eq-eqb (length (map (λ row. value_at row i) rows)) (length rows) (length-map rows (λ row. value_at row i)), heights (i + 1) fs rows) refl

-- a value of a row of given types, and those behind it
fits-here : (t : DataType) (ts : List DataType) (row : List AnyValue) (i : ℕ) → AreOfTypes (t ∷ ts) (drop i row) → (fits (value_at row i) t ≡ true) × AreOfTypes ts (drop (i + 1) row)
fits-here t ts [] zero h = absurd h
fits-here t ts [] (suc i) h = absurd h
fits-here t ts (v ∷ vs) zero h = h
fits-here t ts (v ∷ vs) (suc i) h =
    let next : suc (i + 1) ≡ suc i + 1 = omega arith in
    subst (λ (k : ℕ). (fits (value_at vs i) t ≡ true) × AreOfTypes ts (drop k (v ∷ vs))) next (fits-here t ts vs i h)

first-fits : (t : DataType) (ts : List DataType) (i : ℕ) (rows : List (List AnyValue)) → All (λ row. AreOfTypes (t ∷ ts) (drop i row)) rows → all_fit t (map (λ row. value_at row i) rows) ≡ true
first-fits t ts i [] h = refl
first-fits t ts i (row ∷ rows) h =
    let P : List AnyValue → Type 0 = λ r. AreOfTypes (t ∷ ts) (drop i r) in
    derive.both_true (fits-here t ts row i (All-head P row rows h)).0 (first-fits t ts i rows (All-tail P row rows h))

others-fit : (t : DataType) (ts : List DataType) (i : ℕ) (rows : List (List AnyValue)) → All (λ row. AreOfTypes (t ∷ ts) (drop i row)) rows → All (λ row. AreOfTypes ts (drop (i + 1) row)) rows
others-fit t ts i rows h = λ k d lt. (fits-here t ts (get_or rows k d) i (h k d lt)).1

fit-behind : (fields : List Field) (i : ℕ) (rows : List (List AnyValue)) → All (λ row. AreOfTypes (map (λ f. f.dtype) fields) (drop i row)) rows → ColumnsFit (columns_from i fields rows)
fit-behind [] i rows h = All-nil (λ c. all_fit c.dtype c.values ≡ true)
fit-behind (f ∷ fs) i rows h =
    let ts : List DataType = map (λ f. f.dtype) fs in
    All-cons (λ c. all_fit c.dtype c.values ≡ true) (record { name = f.name; dtype = f.dtype; sorted = false; values = map (λ row. value_at row i) rows }) (columns_from (i + 1) fs rows)
    (first-fits f.dtype ts i rows h) (fit-behind fs (i + 1) rows (others-fit f.dtype ts i rows h))

-- the columns of rows of the fields' types fit them
pub columns-fit : (fields : List Field) (rows : List (List AnyValue)) → All (λ row. AreOfTypes (map (λ f. f.dtype) fields) row) rows → ColumnsFit (columns_from 0 fields rows)
columns-fit fields rows h = fit-behind fields 0 rows h

-- what fits among columns
pub fit-among : (done rest all : List Unfinished) (x : Unfinished) → all ≡ done ++ x ∷ rest → ColumnsFit (columns_of_unfinished all) → all_fit x.field.dtype x.values.items ≡ true
fit-among [] rest all x e h =
    let P : ColumnData → Type 0 = λ c. all_fit c.dtype c.values ≡ true in
    All-head P (column_of_unfinished x) (columns_of_unfinished rest) (subst (λ (cs : List Unfinished). All P (columns_of_unfinished cs)) e h)
fit-among (y ∷ ys) rest all x e h =
    let P : ColumnData → Type 0 = λ c. all_fit c.dtype c.values ≡ true in
    fit-among ys rest (ys ++ x ∷ rest) x refl (All-tail P (column_of_unfinished y) (columns_of_unfinished (ys ++ x ∷ rest)) (subst (λ (cs : List Unfinished). All P (columns_of_unfinished cs)) e h))

-- ---- columns side by side

-- rows of one list with those of another behind them
abbrev pub joined_rows : List (List AnyValue) → List (List AnyValue) → List (List AnyValue)
joined_rows [] bs = []
joined_rows (a ∷ xs) [] = []
joined_rows (a ∷ xs) (b ∷ bs) = (a ++ b) ∷ joined_rows xs bs

pub columns_from-append : (i : ℕ) (fs gs : List Field) (rows : List (List AnyValue)) → columns_from i (fs ++ gs) rows ≡ columns_from i fs rows ++ columns_from (i + length fs) gs rows
columns_from-append i [] gs rows = ap (λ (k : ℕ). columns_from k gs rows) (omega arith)
columns_from-append i (f ∷ fs) gs rows = ap (λ (t : List ColumnData). columns_from i (f ∷ []) rows ++ t) (columns_from-append (i + 1) fs gs rows
    ∙ ap (λ (k : ℕ). columns_from (i + 1) fs rows ++ columns_from k gs rows) (omega arith))

front-value : (a b : List AnyValue) (i : ℕ) → i < length a → value_at (a ++ b) i ≡ value_at a i
front-value [] b i lt = absurd (omega arith)
front-value (x ∷ xs) b zero lt = refl
front-value (x ∷ xs) b (suc i) lt = front-value xs b i (omega (arith, lt))

back-value : (a b : List AnyValue) (i k : ℕ) → k ≡ length a + i → value_at (a ++ b) k ≡ value_at b i
back-value [] b i k e = ap (value_at b) (omega (arith, e))
back-value (x ∷ xs) b i zero e = absurd (omega (arith, e))
back-value (x ∷ xs) b i (suc k) e = back-value xs b i k (omega (arith, e))

module _ (m : ℕ) where
  front-values : (xs bs : List (List AnyValue)) (i : ℕ) → length xs ≡ length bs → All (λ a. length a ≡ m) xs → i < m → map (λ row. value_at row i) (joined_rows xs bs) ≡ map (λ row. value_at row i) xs
  front-values [] bs i n h lt = refl
  front-values (a ∷ xs) [] i n h lt = absurd (omega (arith, n))
  front-values (a ∷ xs) (b ∷ bs) i n h lt =
      let P : List AnyValue → Type 0 = λ x. length x ≡ m in
      let long : length a ≡ m = All-head P a xs h in
      rw (front-value a b i (omega (arith, long, lt)), front-values xs bs i (omega (arith, n)) (All-tail P a xs h) lt) refl

  back-values : (xs bs : List (List AnyValue)) (i k : ℕ) → length xs ≡ length bs → All (λ a. length a ≡ m) xs → k ≡ m + i → map (λ row. value_at row k) (joined_rows xs bs) ≡ map (λ row. value_at row i) bs
  back-values [] [] i k n h e = refl
  back-values [] (b ∷ bs) i k n h e = absurd (omega (arith, n))
  back-values (a ∷ xs) [] i k n h e = absurd (omega (arith, n))
  back-values (a ∷ xs) (b ∷ bs) i k n h e =
      let P : List AnyValue → Type 0 = λ x. length x ≡ m in
      let long : length a ≡ m = All-head P a xs h in
      rw (back-value a b i k (omega (arith, long, e)), back-values xs bs i k (omega (arith, n)) (All-tail P a xs h) e) refl

  front-columns : (fs : List Field) (xs bs : List (List AnyValue)) (i : ℕ) → length xs ≡ length bs → All (λ a. length a ≡ m) xs → i + length fs ≤ m
      → columns_from i fs (joined_rows xs bs) ≡ columns_from i fs xs
  front-columns [] xs bs i n h le = refl
  front-columns (f ∷ fs) xs bs i n h le = rw (front-values xs bs i n h (omega (arith, le)), front-columns fs xs bs (i + 1) n h (omega (arith, le))) refl

  back-columns : (fs : List Field) (xs bs : List (List AnyValue)) (i k : ℕ) → length xs ≡ length bs → All (λ a. length a ≡ m) xs → k ≡ m + i
      → columns_from k fs (joined_rows xs bs) ≡ columns_from i fs bs
  back-columns [] xs bs i k n h e = refl
  back-columns (f ∷ fs) xs bs i k n h e = rw (back-values xs bs i k n h e, back-columns fs xs bs (i + 1) (k + 1) n h (omega (arith, e))) refl

-- the columns of two lists of rows, side by side
pub columns-joined : (fs gs : List Field) (xs bs : List (List AnyValue)) → length xs ≡ length bs → All (λ a. length a ≡ length fs) xs
    → columns_from 0 fs xs ++ columns_from 0 gs bs ≡ columns_from 0 (fs ++ gs) (joined_rows xs bs)
columns-joined fs gs xs bs n h =
    sym (columns_from-append 0 fs gs (joined_rows xs bs)
    ∙ ap (λ (t : List ColumnData). t ++ columns_from (0 + length fs) gs (joined_rows xs bs)) (front-columns (length fs) fs xs bs 0 n h (omega arith))
    ∙ ap (λ (t : List ColumnData). columns_from 0 fs xs ++ t) (back-columns (length fs) gs xs bs 0 (0 + length fs) n h (omega arith)))

pub length-joined : (xs bs : List (List AnyValue)) → length xs ≡ length bs → length (joined_rows xs bs) ≡ length xs
length-joined [] bs n = refl
length-joined (a ∷ xs) [] n = absurd (omega (arith, n))
length-joined (a ∷ xs) (b ∷ bs) n = ap suc (length-joined xs bs (omega (arith, n)))
