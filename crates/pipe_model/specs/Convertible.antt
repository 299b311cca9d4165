-- Which expressions are convertible: they are aggregates of kinds that tables of groups are made for.
use Rattle.std.specs.Prelude.{Bool, true, false, not, ◌&&◌, List, Option, Some, None}
use Rattle.pipe_columns.specs.declared.data_type.DataType.{DataType}
use Rattle.pipe_columns.specs.declared.schema.Field.{Field}
use Rattle.pipe_model.specs.Expr.{Aggregation, Expr}
use Rattle.pipe_model.specs.Expr as expr
use Rattle.pipe_columns.specs.DataType.{is_integer}
use Rattle.pipe_model.specs.Typing.{is_row_wise, type_of}

-- an expression without its outermost alias
abbrev pub unaliased : Expr → Expr
unaliased (expr.column name) = expr.column name
unaliased (expr.literal t v) = expr.literal t v
unaliased (expr.cast e t) = expr.cast e t
unaliased (expr.binary l o r) = expr.binary l o r
unaliased (expr.ternary p truthy falsy) = expr.ternary p truthy falsy
unaliased (expr.alias e name) = e
unaliased (expr.aggregate a e) = expr.aggregate a e
unaliased expr.len = expr.len
unaliased (expr.filter e by) = expr.filter e by
unaliased (expr.sort e) = expr.sort e

-- whether there is an integer type
abbrev pub is_some_integer : Option DataType → Bool
is_some_integer None = false
is_some_integer (Some t) = is_integer t

-- whether an aggregation is of such a kind, of an input of a type or of none
abbrev pub keeps : Aggregation → Option DataType → Bool
keeps expr.sum t = true
keeps expr.first t = true
keeps expr.last t = true
keeps expr.mean t = true
keeps (expr.count include_nulls) t = not include_nulls
keeps (expr.min propagate_nans) t = not propagate_nans && is_some_integer t
keeps (expr.max propagate_nans) t = not propagate_nans && is_some_integer t
keeps expr.median t = false
keeps expr.n_unique t = false

-- whether an expression without alias is convertible: it is the number of rows, or an aggregation of
-- such a kind of values in each row
abbrev pub is_kept : Expr → List Field → Bool
is_kept (expr.column name) schema = false
is_kept (expr.literal t v) schema = false
is_kept (expr.cast e t) schema = false
is_kept (expr.binary l o r) schema = false
is_kept (expr.ternary p truthy falsy) schema = false
is_kept (expr.alias e name) schema = false
is_kept (expr.aggregate a e) schema = is_row_wise e && keeps a (type_of e schema)
is_kept expr.len schema = true
is_kept (expr.filter e by) schema = false
is_kept (expr.sort e) schema = false

-- whether an expression is convertible, under one alias or none
abbrev pub convertible : Expr → List Field → Bool
convertible e schema = is_kept (unaliased e) schema
