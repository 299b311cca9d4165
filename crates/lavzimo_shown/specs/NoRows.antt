-- Of the proofs alone: the frame of one row of small values.
use Rattle.std.specs.Prelude.{List, [], ◌∷◌, map, false}
use Rattle.pipe_columns.specs.declared.any_value.AnyValue.{AnyValue}
use Rattle.pipe_columns.specs.declared.data_type.DataType.TheVariants as dt
use Rattle.pipe_columns.specs.Frame.{ColumnData}

-- a column of one value
abbrev pub one_value : AnyValue → ColumnData
one_value v = record { name = []; dtype = dt.Int128; sorted = false; values = v ∷ [] }

-- a column of one value for each of some
abbrev pub one_values : List AnyValue → List ColumnData
one_values values = map one_value values
