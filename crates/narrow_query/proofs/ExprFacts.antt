-- Types and values of expressions over their wanted columns.
use Rattle.std.proofs.Common.{◌≡◌, ◌∙◌, ◌&&◌, ◌||◌, ℕ, Bool, true, List, refl, sym, ap, Some, None, option_map, option_and_then, unwrap_or, if◌then◌else◌}
use Rattle.std.specs.Prelude.{is_some}
use Rattle.std.specs.Str.{bytes_eq}
use Rattle.pipe_columns.specs.declared.data_type.DataType.TheVariants as dt
use Rattle.pipe_columns.specs.declared.schema.Field.{Field}
use Rattle.pipe_columns.specs.DataType.{is_castable}
use Rattle.pipe_columns.specs.Frame.{ColumnData, FrameData, field_of, fields_of, value_at}
use Rattle.pipe_model.specs.Expr.{Expr}
use Rattle.pipe_model.specs.Expr as expr
use Rattle.pipe_model.specs.Operators.{apply, cast_value, chosen as choose}
use Rattle.pipe_model.specs.Typing.{both, field_named, known_type, knows_columns, operator_type, shared_type, type_of, where_boolean}
use Rattle.pipe_model.specs.Value.{column_named, value, values_if_any}
use Rattle.narrow_columns.specs.Wanted.{chosen, narrowed_frame}
use Rattle.narrow_columns.proofs.WantedFacts.{narrowed-fields}
use Rattle.narrow_query.specs.Names.{has_named, keeps_all, names}
use Rattle.narrow_query.proofs.NameFacts.{find-chosen, keeps-either, keeps-map}

-- what two names name
two : (ws : List Bool) (schema : List Field) (a b : Expr) → keeps_all (λ f. names f.name a || names f.name b) ws schema ≡ true → (has_named ws schema a ≡ true) × (has_named ws schema b ≡ true)
two ws schema a b h = keeps-either (λ f. names f.name a) (λ f. names f.name b) ws schema h

-- the field of a name
field-same : (ws : List Bool) (schema : List Field) (name : List ℕ) → has_named ws schema (expr.column name) ≡ true → field_named name (chosen ws schema) ≡ field_named name schema
field-same ws schema name h = find-chosen (λ f. bytes_eq f.name name) ws schema h

-- an expression has the same type over the wanted fields
pub type-same : (ws : List Bool) (schema : List Field) (e : Expr) → has_named ws schema e ≡ true → type_of e (chosen ws schema) ≡ type_of e schema
type-same ws schema (expr.column name) h = ap (option_map (λ f. f.dtype)) (field-same ws schema name h)
type-same ws schema (expr.literal t v) h = refl
type-same ws schema (expr.cast e t) h =
    ap (option_and_then (λ u. if is_castable u && is_castable t then Some t else None)) (type-same ws schema e h)
type-same ws schema (expr.binary l o r) h =
    let parts = two ws schema l r h in
    let a = type-same ws schema l parts.0 in
    let b = type-same ws schema r parts.1 in
    λ i. both (operator_type o) (a i) (b i)
type-same ws schema (expr.ternary p truthy falsy) h =
    let parts = keeps-either (λ f. names f.name p) (λ f. names f.name truthy || names f.name falsy) ws schema h in
    let others = two ws schema truthy falsy parts.1 in
    let a = type-same ws schema p parts.0 in
    let b = type-same ws schema truthy others.0 in
    let c = type-same ws schema falsy others.1 in
    λ i. where_boolean (a i) (both (shared_type (λ t. true)) (b i) (c i))
type-same ws schema (expr.alias e name) h = type-same ws schema e h
type-same ws schema (expr.aggregate a e) h = rw (type-same ws schema e h) refl
type-same ws schema expr.len h = refl
type-same ws schema (expr.filter e by) h =
    let parts = two ws schema e by h in
    let a = type-same ws schema by parts.1 in
    let b = type-same ws schema e parts.0 in
    λ i. where_boolean (a i) (b i)
type-same ws schema (expr.sort e) h = type-same ws schema e h

-- and the same known type
pub known-same : (ws : List Bool) (schema : List Field) (e : Expr) → has_named ws schema e ≡ true → known_type e (chosen ws schema) ≡ known_type e schema
known-same ws schema e h = ap (λ t. unwrap_or t dt.UInt32) (type-same ws schema e h)

-- its columns are fields of both
pub knows-same : (ws : List Bool) (schema : List Field) (e : Expr) → has_named ws schema e ≡ true → knows_columns e (chosen ws schema) ≡ knows_columns e schema
knows-same ws schema (expr.column name) h = ap (λ o. is_some o) (field-same ws schema name h)
knows-same ws schema (expr.literal t v) h = refl
knows-same ws schema (expr.cast e t) h = knows-same ws schema e h
knows-same ws schema (expr.binary l o r) h =
    let parts = two ws schema l r h in
    let a = knows-same ws schema l parts.0 in
    let b = knows-same ws schema r parts.1 in
    λ i. a i && b i
knows-same ws schema (expr.ternary p truthy falsy) h =
    let parts = keeps-either (λ f. names f.name p) (λ f. names f.name truthy || names f.name falsy) ws schema h in
    let others = two ws schema truthy falsy parts.1 in
    let a = knows-same ws schema p parts.0 in
    let b = knows-same ws schema truthy others.0 in
    let c = knows-same ws schema falsy others.1 in
    λ i. a i && b i && c i
knows-same ws schema (expr.alias e name) h = knows-same ws schema e h
knows-same ws schema (expr.aggregate a e) h = knows-same ws schema e h
knows-same ws schema expr.len h = refl
knows-same ws schema (expr.filter e by) h =
    let parts = two ws schema e by h in
    let a = knows-same ws schema e parts.0 in
    let b = knows-same ws schema by parts.1 in
    λ i. a i && b i
knows-same ws schema (expr.sort e) h = knows-same ws schema e h

-- the column of a name
column-same : (ws : List Bool) (columns : List ColumnData) (name : List ℕ) → has_named ws (fields_of columns) (expr.column name) ≡ true → column_named name (chosen ws columns) ≡ column_named name columns
column-same ws columns name h =
    find-chosen (λ c. bytes_eq c.name name) ws columns (sym (keeps-map (λ f. names f.name (expr.column name)) field_of ws columns) ∙ h)

-- an expression has the same value in a row of the wanted columns
pub value-same : (ws : List Bool) (frame : FrameData) (row : ℕ) (e : Expr) → has_named ws (fields_of frame.columns) e ≡ true → value e (narrowed_frame ws frame) row ≡ value e frame row
value-same ws frame row (expr.column name) h = ap (λ c. value_at (values_if_any c) row) (column-same ws frame.columns name h)
value-same ws frame row (expr.literal t v) h = refl
value-same ws frame row (expr.cast e t) h = ap (cast_value t) (value-same ws frame row e h)
value-same ws frame row (expr.binary l o r) h =
    let parts = two ws (fields_of frame.columns) l r h in
    let t = ap (known_type l) (narrowed-fields ws frame) ∙ known-same ws (fields_of frame.columns) l parts.0 in
    let a = value-same ws frame row l parts.0 in
    let b = value-same ws frame row r parts.1 in
    λ i. apply o (t i) (a i) (b i)
value-same ws frame row (expr.ternary p truthy falsy) h =
    let parts = keeps-either (λ f. names f.name p) (λ f. names f.name truthy || names f.name falsy) ws (fields_of frame.columns) h in
    let others = two ws (fields_of frame.columns) truthy falsy parts.1 in
    let a = value-same ws frame row p parts.0 in
    let b = value-same ws frame row truthy others.0 in
    let c = value-same ws frame row falsy others.1 in
    λ i. choose (a i) (b i) (c i)
value-same ws frame row (expr.alias e name) h = value-same ws frame row e h
value-same ws frame row (expr.aggregate a e) h = refl
value-same ws frame row expr.len h = refl
value-same ws frame row (expr.filter e by) h = refl
value-same ws frame row (expr.sort e) h = refl
