-- Columns of rows that fit a schema.
use Rattle.std.proofs.Common.{◌≡◌, ◌∙◌, ◌<◌, ◌+◌, ◌==◌, ℕ, true, List, [], ◌∷◌, ◌++◌, length, drop, get_or, set, map, Vec, Global, Option, Some, None, Ok, refl, sym, ap, arith, eq-eqb, subst}
use Rattle.std.specs.Prelude.{⊤}
use Rattle.std.specs.Option.{ok_or}
use Rattle.std.proofs.lemmas.Bool.{and_from, and_parts}
use Rattle.std.proofs.lemmas.List.{drop-set-lt, drop_more, get_or-map, length-map, map-set}
use Rattle.std.proofs.lemmas.List.Elements.{All-cons, All-nil}
use Rattle.pipe_columns.specs.declared.data_type.DataType.{DataType}
use Rattle.pipe_columns.specs.declared.any_value.AnyValue.{AnyValue}
use Rattle.pipe_columns.specs.declared.schema.Field.{Field}
use Rattle.pipe_columns.specs.AnyValue.{fits, HasUtf8}
use Rattle.pipe_columns.specs.Frame.{AllHaveHeight, AreOfType, ColumnData, all_have_height, fields_of, value_at}
use Rattle.pipe_csv.specs.Fields.{read_field}
use Rattle.pipe_csv.specs.CsvRows.{Misfit}
use Rattle.pipe_csv.specs.Columns.{DoHold, column_of, columns_of, values_from}
use Rattle.pipe_csv.proofs.ColumnFacts.{items_of}
use Rattle.pipe_csv.proofs.FieldFacts.{field-fits, field-utf8}

-- a value fits a type, and is in UTF-8 if it is a text
abbrev pub IsOfType : AnyValue → DataType → Type 0
IsOfType v t = (fits v t ≡ true) × HasUtf8 v

-- the values of a row from a place on fit fields
abbrev pub RowFits : ℕ → List Field → List AnyValue → Type 0
RowFits i [] row = ⊤
RowFits i (f ∷ fs) row = IsOfType (value_at row i) f.dtype × RowFits (i + 1) fs row

-- the values of each row from a place on fit fields
abbrev pub RowsFit : ℕ → List Field → List (List AnyValue) → Type 0
RowsFit i fs [] = ⊤
RowsFit i fs (r ∷ rs) = RowFits i fs r × RowsFit i fs rs

-- one more row that fits
pub rows-push : (i : ℕ) (fs : List Field) (rows : List (List AnyValue)) (row : List AnyValue) → RowsFit i fs rows → RowFits i fs row → RowsFit i fs (rows ++ (row ∷ []))
rows-push i fs [] row h g = (g, tt)
rows-push i fs (r ∷ rs) row h g = (h.0, rows-push i fs rs row h.1 g)

-- the values of one place of the rows fit its field
column-fits : (i : ℕ) (f : Field) (fs : List Field) (rows : List (List AnyValue)) → RowsFit i (f ∷ fs) rows → AreOfType f.dtype (map (λ row. value_at row i) rows)
column-fits i f fs [] h = record { fit = refl; utf8 = All-nil HasUtf8 }
column-fits i f fs (r ∷ rs) h =
    let rest = column-fits i f fs rs h.1 in
    record {
      fit = and_from _ _ h.0.0.0 rest.fit;
      utf8 = All-cons HasUtf8 (value_at r i) (map (λ row. value_at row i) rs) h.0.0.1 rest.utf8;
    }

-- the values from the next place on fit
rows-tail : (i : ℕ) (f : Field) (fs : List Field) (rows : List (List AnyValue)) → RowsFit i (f ∷ fs) rows → RowsFit (i + 1) fs rows
rows-tail i f fs [] h = tt
rows-tail i f fs (r ∷ rs) h = (h.0.1, rows-tail i f fs rs h.1)

-- the columns of rows that fit hold what fits
pub rows-hold : (i : ℕ) (fs : List Field) (rows : List (List AnyValue)) → RowsFit i fs rows → DoHold (length rows) fs (values_from i fs rows)
rows-hold i [] rows h = tt
rows-hold i (f ∷ fs) rows h = (column-fits i f fs rows h, length-map rows (λ row. value_at row i), rows-hold (i + 1) fs rows (rows-tail i f fs rows h))

-- what reads is some value
some-from : (o : Option AnyValue) (e : Misfit) (v : AnyValue) → ok_or o e ≡ Ok v → o ≡ Some v
some-from None e v h = cc
some-from (Some w) e v h = cc

-- a field that reads gives a value of its type
pub value-fits : (f : Field) (t : List ℕ) (e : Misfit) (v : AnyValue) → ok_or (read_field f.dtype t) e ≡ Ok v → IsOfType v f.dtype
value-fits f t e v h = (field-fits f.dtype t v (some-from (read_field f.dtype t) e v h), field-utf8 f.dtype t v (some-from (read_field f.dtype t) e v h))

-- one field of a row is one of its columns
pub hold-step : (n : ℕ) (fs : List Field) (columns : List (Vec AnyValue Global)) (i : ℕ) (f : Field) (old new : Vec AnyValue Global)
    → DoHold n (drop i fs) (drop i (items_of columns)) → i < length fs → i < length columns → f ≡ get_or fs i f → old ≡ get_or columns i old
    → AreOfType f.dtype old.items × (length old.items ≡ n) × DoHold n (drop (i + 1) fs) (drop (i + 1) (items_of (set columns i new)))
hold-step n fs columns i f old new d h k g o =
    let cs : List (List AnyValue) = items_of columns in
    let at : old.items ≡ get_or cs i old.items = ap (λ (x : Vec AnyValue Global). x.items) o ∙ sym (get_or-map (λ (x : Vec AnyValue Global). x.items) columns i old old.items k) in
    let a : drop i fs ≡ f ∷ drop (i + 1) fs = drop_more fs i f h ∙ ap (λ (x : Field). x ∷ drop (i + 1) fs) (sym g) in
    let b : drop i cs ≡ old.items ∷ drop (i + 1) cs = drop_more cs i old.items (omega (arith, length-map columns (λ (x : Vec AnyValue Global). x.items))) ∙ ap (λ (x : List AnyValue). x ∷ drop (i + 1) cs) (sym at) in
    let kept : drop (i + 1) (items_of (set columns i new)) ≡ drop (i + 1) cs =
    ap (λ (t : List (List AnyValue)). drop (i + 1) t) (map-set (λ (x : Vec AnyValue Global). x.items) columns i new) ∙ drop-set-lt (i + 1) cs i new.items (omega arith) in
    let P : List Field → Type 0 = λ t. DoHold n t (drop i cs) in
    let Q : List (List AnyValue) → Type 0 = λ t. DoHold n (f ∷ drop (i + 1) fs) t in
    let R : List (List AnyValue) → Type 0 = λ t. DoHold n (drop (i + 1) fs) t in
    let now : DoHold n (f ∷ drop (i + 1) fs) (old.items ∷ drop (i + 1) cs) = subst Q b (subst P a d) in
    (now.0, now.1, subst R (sym kept) now.2)

-- one more column of a height
pub height-push : (n : ℕ) (made : List ColumnData) (c : ColumnData) (f : Field) (values : List AnyValue) → AllHaveHeight n made → c ≡ column_of f values → length values ≡ n → AllHaveHeight n (made ++ (c ∷ []))
height-push n [] c f values h e l = rw (e, eq-eqb (length values) n l) refl
height-push n (m ∷ ms) c f values h e l =
    let parts = and_parts (length m.values == n) (all_have_height n ms) h in
    and_from _ _ parts.0 (height-push n ms c f values parts.1 e l)
