-- The type of an expression.
use Rattle.std.specs.Prelude.{ℕ, Bool, true, false, ◌&&◌, ◌||◌, List, Option, Some, None, option_map, option_and_then, if◌then◌else◌, is_some, unwrap_or}
use Rattle.std.specs.List.{find}
use Rattle.std.specs.Str.{bytes_eq}
use Rattle.pipe_columns.specs.declared.data_type.DataType.{DataType}
use Rattle.pipe_columns.specs.declared.data_type.DataType.TheVariants as dt
use Rattle.pipe_columns.specs.declared.schema.Field.{Field}
use Rattle.pipe_columns.specs.AnyValue.{fits}
use Rattle.pipe_columns.specs.DataType.{is_boolean, is_castable, is_input, is_integer, same_type, sum_type}
use Rattle.pipe_columns.specs.declared.operator.Operator.{Operator}
use Rattle.pipe_columns.specs.declared.operator.Operator.TheVariants as op
use Rattle.pipe_model.specs.Expr.{Aggregation, Expr}
use Rattle.pipe_model.specs.Expr as expr

-- the first field of a name
abbrev pub field_named : List ℕ → List Field → Option Field
field_named name fields = find (λ f. bytes_eq f.name name) fields

-- the type of two operands of one type that meets a test
abbrev pub shared_type : (DataType → Bool) → DataType → DataType → Option DataType
shared_type test a b = if same_type a b && test a then Some a else None

-- the truth of a test of two operands of one type
abbrev pub truth_type : (DataType → Bool) → DataType → DataType → Option DataType
truth_type test a b = option_map (λ t. dt.Boolean) (shared_type test a b)

-- the type of an operator's result: arithmetic is of one integer type, comparisons are of one input
-- type, and logic of Booleans
abbrev pub operator_type : Operator → DataType → DataType → Option DataType
operator_type op.Plus a b = shared_type is_integer a b
operator_type op.Minus a b = shared_type is_integer a b
operator_type op.Multiply a b = shared_type is_integer a b
operator_type op.FloorDivide a b = shared_type is_integer a b
operator_type op.Modulus a b = shared_type is_integer a b
operator_type op.Eq a b = truth_type is_input a b
operator_type op.NotEq a b = truth_type is_input a b
operator_type op.Lt a b = truth_type is_input a b
operator_type op.LtEq a b = truth_type is_input a b
operator_type op.Gt a b = truth_type is_input a b
operator_type op.GtEq a b = truth_type is_input a b
operator_type op.And a b = truth_type is_boolean a b
operator_type op.Or a b = truth_type is_boolean a b

-- the type of a mean: that of an exact sum for integers and truths, and else the values' own
abbrev pub mean_type : DataType → DataType
mean_type t = if is_integer t || is_boolean t then dt.Int128 else t

-- the type of an aggregate of values of a type
abbrev pub aggregate_type : Aggregation → DataType → DataType
aggregate_type expr.sum t = sum_type t
aggregate_type expr.first t = t
aggregate_type expr.last t = t
aggregate_type expr.mean t = mean_type t
aggregate_type (expr.count include_nulls) t = dt.UInt32
aggregate_type (expr.min propagate_nans) t = t
aggregate_type (expr.max propagate_nans) t = t
aggregate_type expr.median t = t
aggregate_type expr.n_unique t = dt.UInt32

-- what two types make, where both are there
abbrev pub both :
    (DataType → DataType → Option DataType) → Option DataType → Option DataType → Option DataType
both f a b = option_and_then (λ t. option_and_then (λ u. f t u) b) a

-- the type of what follows a Boolean
abbrev pub where_boolean : Option DataType → Option DataType → Option DataType
where_boolean test t = option_and_then (λ u. if is_boolean u then t else None) test

-- the type of an expression over a schema, or none
abbrev pub type_of : Expr → List Field → Option DataType
type_of (expr.column name) schema = option_map (λ f. f.dtype) (field_named name schema)
type_of (expr.literal t v) schema = if is_input t && fits v t then Some t else None
type_of (expr.cast e t) schema =
    option_and_then (λ u. if is_castable u && is_castable t then Some t else None)
    (type_of e schema)
type_of (expr.binary l o r) schema = both (operator_type o) (type_of l schema) (type_of r schema)
type_of (expr.ternary p truthy falsy) schema =
    where_boolean (type_of p schema)
    (both (shared_type (λ t. true)) (type_of truthy schema) (type_of falsy schema))
type_of (expr.alias e name) schema = type_of e schema
type_of (expr.aggregate a e) schema =
    option_and_then (λ t. if is_input t then Some (aggregate_type a t) else None) (type_of e schema)
type_of expr.len schema = Some dt.UInt32
type_of (expr.filter e by) schema = where_boolean (type_of by schema) (type_of e schema)
type_of (expr.sort e) schema = type_of e schema

-- the type of an expression, UInt32 for one that has none
abbrev pub known_type : Expr → List Field → DataType
known_type e schema = unwrap_or (type_of e schema) dt.UInt32

-- whether each column that an expression reaches is a field
abbrev pub knows_columns : Expr → List Field → Bool
knows_columns (expr.column name) schema = is_some (field_named name schema)
knows_columns (expr.literal t v) schema = true
knows_columns (expr.cast e t) schema = knows_columns e schema
knows_columns (expr.binary l o r) schema = knows_columns l schema && knows_columns r schema
knows_columns (expr.ternary p truthy falsy) schema =
    knows_columns p schema && knows_columns truthy schema && knows_columns falsy schema
knows_columns (expr.alias e name) schema = knows_columns e schema
knows_columns (expr.aggregate a e) schema = knows_columns e schema
knows_columns expr.len schema = true
knows_columns (expr.filter e by) schema = knows_columns e schema && knows_columns by schema
knows_columns (expr.sort e) schema = knows_columns e schema

-- whether an expression has a value in each row: it reaches no aggregate, `len`, filter or sort
abbrev pub is_row_wise : Expr → Bool
is_row_wise (expr.column name) = true
is_row_wise (expr.literal t v) = true
is_row_wise (expr.cast e t) = is_row_wise e
is_row_wise (expr.binary l o r) = is_row_wise l && is_row_wise r
is_row_wise (expr.ternary p truthy falsy) = is_row_wise p && is_row_wise truthy && is_row_wise falsy
is_row_wise (expr.alias e name) = is_row_wise e
is_row_wise (expr.aggregate a e) = false
is_row_wise expr.len = false
is_row_wise (expr.filter e by) = false
is_row_wise (expr.sort e) = false
