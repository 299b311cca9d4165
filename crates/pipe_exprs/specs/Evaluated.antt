-- The column that an expression makes of a frame.
use Rattle.std.specs.Prelude.{Bool, false, List, Option, Some, None, map}
use Rattle.std.specs.List.{range_with_len}
use Rattle.pipe_columns.specs.declared.data_type.DataType.TheVariants as dt
use Rattle.pipe_columns.specs.declared.any_value.AnyValue.{AnyValue}
use Rattle.pipe_columns.specs.declared.any_value.AnyValue.TheVariants as av
use Rattle.pipe_columns.specs.Frame.{ColumnData, FrameData, fields_of}
use Rattle.pipe_exprs.specs.declared.column_values.ColumnValues.{ColumnValues}
use Rattle.pipe_exprs.specs.declared.column_values.ColumnValues.TheVariants as values
use Rattle.pipe_model.specs.Expr.{Expr, name_of}
use Rattle.pipe_model.specs.Expr as expr
use Rattle.pipe_model.specs.Typing.{known_type}
use Rattle.pipe_model.specs.Value.{column_named, value}

-- the flag of a column, false where there is none
abbrev pub sorted_if_any : Option ColumnData → Bool
sorted_if_any None = false
sorted_if_any (Some c) = c.sorted

-- the flag of the column that an expression is, under aliases or none; false for what is no column
abbrev pub keeps_sorted : Expr → List ColumnData → Bool
keeps_sorted (expr.column name) columns = sorted_if_any (column_named name columns)
keeps_sorted (expr.literal t v) columns = false
keeps_sorted (expr.cast e t) columns = false
keeps_sorted (expr.binary l o r) columns = false
keeps_sorted (expr.ternary p truthy falsy) columns = false
keeps_sorted (expr.alias e name) columns = keeps_sorted e columns
keeps_sorted (expr.aggregate a e) columns = false
keeps_sorted expr.len columns = false
keeps_sorted (expr.filter e by) columns = false
keeps_sorted (expr.sort e) columns = false

-- the value of an expression in each row of a frame
abbrev pub row_values : Expr → FrameData → List AnyValue
row_values e frame = map (λ row. value e frame row) (range_with_len 0 frame.height)

-- the column of an expression's values
abbrev pub evaluated : Expr → FrameData → ColumnData
evaluated e frame = record {
  name = name_of e;
  dtype = known_type e (fields_of frame.columns);
  sorted = keeps_sorted e frame.columns;
  values = row_values e frame;
}

-- as many nulls as a frame has rows
abbrev pub counted_rows : FrameData → ColumnData
counted_rows frame = record {
  name = name_of expr.len;
  dtype = dt.UInt32;
  sorted = false;
  values = map (λ row. av.Null) (range_with_len 0 frame.height);
}

-- values that are lent, or held
abbrev pub items_of : ColumnValues → List AnyValue
items_of (values.Lent items) = items.now
items_of (values.Own items) = items.items
