-- The rows of a frame that is made of rows.
use Rattle.std.proofs.Common.{◌≡◌, ◌∙◌, ℕ, zero, suc, ◌+◌, ◌<◌, List, [], ◌∷◌, ◌++◌, length, map, get_or, refl, sym, ap, arith, append_assoc, length-append}
use Rattle.std.specs.List.{flat_map}
use Rattle.std.proofs.lemmas.List.{length-map, length_push}
use Rattle.pipe_columns.specs.declared.any_value.AnyValue.{AnyValue}
use Rattle.pipe_columns.specs.declared.data_type.DataType.{DataType}
use Rattle.pipe_columns.specs.declared.data_type.DataType.TheVariants as dt
use Rattle.pipe_columns.specs.declared.place.Place.{Place}
use Rattle.pipe_columns.specs.declared.schema.Field.{Field}
use Rattle.pipe_columns.specs.Frame.{columns_from, fields_of, frame_of, row_at, value_at}
use Rattle.pipe_columns.specs.Row.{Row}
use Rattle.pipe_model.specs.Aggregate.{agg, halves, values_in}
use Rattle.pipe_model.specs.Answer.{aggs_from, answer_row, inputs_at, rows_at}
use Rattle.pipe_model.specs.Expr.{Expr, name_of}
use Rattle.pipe_model.specs.Kind.{Kind}
use Rattle.pipe_model.specs.Kind as kind
use Rattle.pipe_model.specs.Output.{agg_fields, input_type, key_types, mean_fields, output_schema}
use Rattle.pipe_model.specs.Query.{AggTree, QueryTree}
use Rattle.pipe_model.specs.Typing.{known_type}
use Rattle.pipe_spill.specs.KeyTypes.{AreOfTypes}
use Rattle.pipe_spill.proofs.Tuples.{as_long}
use Rattle.pipe_groups.proofs.ShapeFacts.{value-behind}

-- ---- rows and columns

-- a value of a column is that of the row
value-column : (rows : List (List AnyValue)) (i j : ℕ) → i < length rows → value_at (map (λ row. value_at row j) rows) i ≡ value_at (get_or rows i []) j
value-column [] i j lt = absurd (omega arith)
value-column (row ∷ rows) zero j lt = refl
value-column (row ∷ rows) (suc i) j lt = value-column rows i j (omega arith)

-- the values of a row, one for each field, from a place on
abbrev cells : ℕ → List Field → List AnyValue → List AnyValue
cells j [] row = []
cells j (f ∷ fs) row = value_at row j ∷ cells (j + 1) fs row

-- they are a row of the columns
row-columns : (j : ℕ) (fields : List Field) (rows : List (List AnyValue)) (i : ℕ) → i < length rows → row_at (columns_from j fields rows) i ≡ cells j fields (get_or rows i [])
row-columns j [] rows i lt = refl
row-columns j (f ∷ fs) rows i lt =
    let here = value-column rows i j lt in
    let rest = row-columns (j + 1) fs rows i lt in
    λ n. here n ∷ rest n

-- a row with a value for each field, also behind other values
cells-behind : (fields : List Field) (front row : List AnyValue) → length row ≡ length fields → cells (length front) fields (front ++ row) ≡ row
cells-behind [] front [] e = refl
cells-behind [] front (v ∷ vs) e = absurd (omega arith)
cells-behind (f ∷ fs) front [] e = absurd (omega arith)
cells-behind (f ∷ fs) front (v ∷ vs) e =
    let rest : cells (length front + 1) fs (front ++ v ∷ vs) ≡ vs =
    ap (λ (j : ℕ). cells j fs (front ++ v ∷ vs)) (sym (length_push front v))
    ∙ ap (cells (length (front ++ v ∷ [])) fs) (sym (append_assoc front (v ∷ []) vs))
    ∙ cells-behind fs (front ++ v ∷ []) vs (omega arith) in
    let here = value-behind front v vs in
    λ n. here n ∷ rest n

-- the row at a place of a frame of rows
pub row-frame : (fields : List Field) (rows : List (List AnyValue)) (i : ℕ) → i < length rows → length (get_or rows i []) ≡ length fields → row_at (frame_of fields rows).columns i ≡ get_or rows i []
row-frame fields rows i lt e = row-columns 0 fields rows i lt ∙ cells-behind fields [] (get_or rows i []) e

-- a frame has the fields that it is made of
pub frame-fields : (j : ℕ) (fields : List Field) (rows : List (List AnyValue)) → fields_of (columns_from j fields rows) ≡ fields
frame-fields j [] rows = refl
frame-fields j (f ∷ fs) rows = ap (λ (l : List Field). f ∷ l) (frame-fields (j + 1) fs rows)

-- ---- a row of an answer has a value for each output column

halves-length : (name : List ℕ) (t : DataType) (vs : List AnyValue) → length (halves t vs) ≡ length (mean_fields name t)
halves-length name dt.Boolean vs = refl
halves-length name dt.Int8 vs = refl
halves-length name dt.Int16 vs = refl
halves-length name dt.Int32 vs = refl
halves-length name dt.Int64 vs = refl
halves-length name dt.UInt8 vs = refl
halves-length name dt.UInt16 vs = refl
halves-length name dt.UInt32 vs = refl
halves-length name dt.UInt64 vs = refl
halves-length name dt.Int128 vs = refl
halves-length name dt.Date vs = refl
halves-length name dt.String vs = refl

agg-length : (name : List ℕ) (k : Kind) (t : DataType) (entries : List (Place × AnyValue)) → length (agg k t entries) ≡ length (agg_fields name k t)
agg-length name kind.sum t entries = refl
agg-length name kind.mean t entries = halves-length name t (values_in entries)
agg-length name kind.min t entries = refl
agg-length name kind.max t entries = refl
agg-length name kind.first t entries = refl
agg-length name kind.last t entries = refl
agg-length name kind.count t entries = refl
agg-length name kind.len t entries = refl

aggs-length : (schema : List Field) (aggs : List AggTree) (j : ℕ) (entries : List (Place × List AnyValue))
    → length (aggs_from j schema aggs entries) ≡ length (flat_map (λ a. agg_fields a.name a.kind (input_type schema a.input)) aggs)
aggs-length schema [] j entries = refl
aggs-length schema (a ∷ others) j entries =
    let t = input_type schema a.input in
    let own = agg a.kind t (inputs_at j entries) in
    let rest = aggs_from (j + 1) schema others entries in
    let fields = agg_fields a.name a.kind t in
    let more = flat_map (λ b. agg_fields b.name b.kind (input_type schema b.input)) others in
    omega (arith, length-append own rest, length-append fields more, agg-length a.name a.kind t (inputs_at j entries), aggs-length schema others (j + 1) entries)

pub answer_row-length : (q : QueryTree) (rs : List Row) (key : List AnyValue) → AreOfTypes (key_types q) key → length (answer_row q rs key) ≡ length (output_schema q)
answer_row-length q rs key h =
    let field : Expr → Field = λ e. record { name = name_of e; dtype = known_type e q.schema } in
    let type : Expr → DataType = λ e. known_type e q.schema in
    let aggs = aggs_from 0 q.schema q.aggs (rows_at rs key) in
    let fields = flat_map (λ a. agg_fields a.name a.kind (input_type q.schema a.input)) q.aggs in
    omega (arith, length-append key aggs, length-append (map field q.keys) fields, length-map q.keys field, length-map q.keys type, as_long (key_types q) key h, aggs-length q.schema q.aggs 0 (rows_at rs key))
