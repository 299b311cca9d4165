-- Columns of values, row by row and field by field.
use Rattle.std.proofs.Common.{◌≡◌, ◌∙◌, ◌≤◌, ◌<◌, ◌+◌, ◌&&◌, not, ℕ, suc, List, [], ◌∷◌, ◌++◌, length, drop, get_or, set, map, Vec, Global, Bool, true, false, refl, sym, ap, arith}
use Rattle.std.specs.Ordering.{is_lt}
use Rattle.std.proofs.lemmas.List.{append_assoc, drop-set-lt, drop_all, drop_more, get_or-map, length-drop, length-map, map-set}
use Rattle.pipe_columns.specs.declared.any_value.AnyValue.{AnyValue}
use Rattle.pipe_columns.specs.declared.schema.Field.{Field}
use Rattle.pipe_columns.specs.AnyValue.{value_cmp}
use Rattle.pipe_columns.specs.Frame.{ColumnData}
use Rattle.pipe_csv.specs.CsvRows.{is_ascending}
use Rattle.pipe_csv.specs.Columns.{column_of, columns_of, with_row}

-- one more value of a row goes to the end of the next column
pub with_row-more : (vs : List AnyValue) (v : AnyValue) (cs : List (List AnyValue)) → length vs < length cs → with_row (vs ++ (v ∷ [])) cs ≡ set (with_row vs cs) (length vs) (get_or (with_row vs cs) (length vs) [] ++ (v ∷ []))
with_row-more [] v [] h = absurd (omega arith)
with_row-more [] v (c ∷ cs) h = refl
with_row-more (w ∷ ws) v [] h = absurd (omega arith)
with_row-more (w ∷ ws) v (c ∷ cs) h = ap (λ (t : List (List AnyValue)). (c ++ (w ∷ [])) ∷ t) (with_row-more ws v cs (omega arith))

-- a row adds no column
pub length-with_row : (vs : List AnyValue) (cs : List (List AnyValue)) → length (with_row vs cs) ≡ length cs
length-with_row [] cs = refl
length-with_row (v ∷ vs) [] = refl
length-with_row (v ∷ vs) (c ∷ cs) = ap (λ n. suc n) (length-with_row vs cs)

-- the column of the next field
pub columns-step : (fs : List Field) (cs : List (List AnyValue)) (i : ℕ) (f : Field) (c : List AnyValue) → i < length fs → i < length cs → f ≡ get_or fs i f → c ≡ get_or cs i c
    → columns_of (drop i fs) (drop i cs) ≡ column_of f c ∷ columns_of (drop (i + 1) fs) (drop (i + 1) cs)
columns-step fs cs i f c h k e g =
    let a : drop i fs ≡ f ∷ drop (i + 1) fs = drop_more fs i f h ∙ ap (λ (x : Field). x ∷ drop (i + 1) fs) (sym e) in
    let b : drop i cs ≡ c ∷ drop (i + 1) cs = drop_more cs i c k ∙ ap (λ (x : List AnyValue). x ∷ drop (i + 1) cs) (sym g) in
    rw (a, b) refl

-- one value at most ascends
short-ascends : (vs : List AnyValue) → length vs ≤ 1 → is_ascending vs ≡ true
short-ascends [] h = refl
short-ascends (v ∷ []) h = refl
short-ascends (v ∷ w ∷ vs) h = absurd (omega arith)

-- no value is left
pub ascend-end : (vs : List AnyValue) (j : ℕ) → is_ascending vs ≡ is_ascending (drop j vs) → length vs ≤ j + 1 → is_ascending vs ≡ true
ascend-end vs j d h = d ∙ short-ascends (drop j vs) (omega (arith, length-drop {A = AnyValue}))

-- the values of columns
abbrev pub items_of : List (Vec AnyValue Global) → List (List AnyValue)
items_of columns = map (λ c. c.items) columns

-- a value goes to the end of the column at a place
pub push-columns : (columns : List (Vec AnyValue Global)) (i : ℕ) (old new : Vec AnyValue Global) (done : List AnyValue) (v : AnyValue) (before : List (List AnyValue))
    → items_of columns ≡ with_row done before → length done ≡ i → i < length columns → old ≡ get_or columns i old → new.items ≡ old.items ++ (v ∷ []) → items_of (set columns i new) ≡ with_row (done ++ (v ∷ [])) before
push-columns columns i old new done v before e n h o p =
    let size : length columns ≡ length before = sym (length-map columns (λ (c : Vec AnyValue Global). c.items)) ∙ ap length e ∙ length-with_row done before in
    let was : get_or (with_row done before) (length done) [] ≡ old.items =
    ap (λ (t : List (List AnyValue)). get_or t (length done) []) (sym e) ∙ ap (λ (k : ℕ). get_or (items_of columns) k []) n ∙ get_or-map (λ (c : Vec AnyValue Global). c.items) columns i old [] h ∙ ap (λ (c : Vec AnyValue Global). c.items) (sym o) in
    map-set (λ (c : Vec AnyValue Global). c.items) columns i new
    ∙ ap (λ (t : List (List AnyValue)). set t i new.items) e
    ∙ ap (λ (t : List AnyValue). set (with_row done before) i t) (p ∙ ap (λ (t : List AnyValue). t ++ (v ∷ [])) (sym was))
    ∙ ap (λ (k : ℕ). set (with_row done before) k (get_or (with_row done before) (length done) [] ++ (v ∷ []))) (sym n)
    ∙ sym (with_row-more done v before (omega (arith, size, n, h)))

-- the column at a place goes to the columns that are made
pub make-columns : (fs : List Field) (columns : List (Vec AnyValue Global)) (i : ℕ) (f : Field) (old new : Vec AnyValue Global) (made : List ColumnData) (c : ColumnData) (all : List ColumnData)
    → all ≡ made ++ columns_of (drop i fs) (drop i (items_of columns)) → i < length fs → i < length columns → f ≡ get_or fs i f → old ≡ get_or columns i old → c ≡ column_of f old.items
    → all ≡ (made ++ (c ∷ [])) ++ columns_of (drop (i + 1) fs) (drop (i + 1) (items_of (set columns i new)))
make-columns fs columns i f old new made c all e h k g o m =
    let at : old.items ≡ get_or (items_of columns) i old.items = ap (λ (x : Vec AnyValue Global). x.items) o ∙ sym (get_or-map (λ (x : Vec AnyValue Global). x.items) columns i old old.items k) in
    let step = columns-step fs (items_of columns) i f old.items h (omega (arith, length-map columns (λ (x : Vec AnyValue Global). x.items))) g at in
    let kept : drop (i + 1) (items_of (set columns i new)) ≡ drop (i + 1) (items_of columns) =
    ap (λ (t : List (List AnyValue)). drop (i + 1) t) (map-set (λ (x : Vec AnyValue Global). x.items) columns i new) ∙ drop-set-lt (i + 1) (items_of columns) i new.items (omega arith) in
    let rest : List ColumnData = columns_of (drop (i + 1) fs) (drop (i + 1) (items_of columns)) in
    e ∙ ap (λ (t : List ColumnData). made ++ t) step ∙ ap (λ (x : ColumnData). made ++ (x ∷ rest)) (sym m) ∙ sym (append_assoc made (c ∷ []) rest)
    ∙ ap (λ (t : List (List AnyValue)). (made ++ (c ∷ [])) ++ columns_of (drop (i + 1) fs) t) (sym kept)
