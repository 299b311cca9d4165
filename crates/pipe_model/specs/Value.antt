-- The value of an expression in a row.
use Rattle.std.specs.Prelude.{ℕ, List, [], Option, Some, None}
use Rattle.std.specs.List.{find}
use Rattle.std.specs.Str.{bytes_eq}
use Rattle.pipe_columns.specs.declared.any_value.AnyValue.{AnyValue}
use Rattle.pipe_columns.specs.declared.any_value.AnyValue.TheVariants as av
use Rattle.pipe_columns.specs.Frame.{ColumnData, FrameData, fields_of, value_at}
use Rattle.pipe_model.specs.Expr.{Expr}
use Rattle.pipe_model.specs.Expr as expr
use Rattle.pipe_model.specs.Operators.{apply, cast_value, chosen}
use Rattle.pipe_model.specs.Typing.{known_type}

-- the first column of a name
abbrev pub column_named : List ℕ → List ColumnData → Option ColumnData
column_named name columns = find (λ c. bytes_eq c.name name) columns

-- the values of a column, none where there is no column
abbrev pub values_if_any : Option ColumnData → List AnyValue
values_if_any None = []
values_if_any (Some c) = c.values

-- the value of an expression in a row of a frame; what has no value in a row is null
abbrev pub value : Expr → FrameData → ℕ → AnyValue
value (expr.column name) frame row = value_at (values_if_any (column_named name frame.columns)) row
value (expr.literal t v) frame row = v
value (expr.cast e t) frame row = cast_value t (value e frame row)
value (expr.binary l o r) frame row =
    apply o (known_type l (fields_of frame.columns)) (value l frame row) (value r frame row)
value (expr.ternary p truthy falsy) frame row =
    chosen (value p frame row) (value truthy frame row) (value falsy frame row)
value (expr.alias e name) frame row = value e frame row
value (expr.aggregate a e) frame row = av.Null
value expr.len frame row = av.Null
value (expr.filter e by) frame row = av.Null
value (expr.sort e) frame row = av.Null
