-- What the worked rows are about, in short.
use Rattle.std.specs.Prelude.{Bool, ℕ, ℤ, codes, List, []}
use Rattle.pipe_columns.specs.declared.any_value.AnyValue.{AnyValue}
use Rattle.pipe_columns.specs.declared.any_value.AnyValue.TheVariants as av
use Rattle.pipe_columns.specs.declared.data_type.DataType.{DataType}
use Rattle.pipe_columns.specs.declared.data_type.DataType.TheVariants as dt
use Rattle.pipe_columns.specs.declared.schema.Field.{Field}
use Rattle.pipe_columns.specs.Frame.{frame_of}
use Rattle.pipe_model.specs.Expr.{Expr}
use Rattle.pipe_model.specs.Expr as expr
use Rattle.pipe_model.specs.Value.{value}

-- a field of a name and a type
abbrev pub field : List ℕ → DataType → Field
field name t = record { name = name; dtype = t }

-- a number of Int8
abbrev pub small : ℤ → Expr
small n = expr.literal dt.Int8 (av.Int n)

-- a number of Int64
abbrev pub large : ℤ → Expr
large n = expr.literal dt.Int64 (av.Int n)

-- a truth
abbrev pub truth : Bool → Expr
truth b = expr.literal dt.Boolean (av.Boolean b)

-- a truth that is null
abbrev pub no_truth : Expr
no_truth = expr.literal dt.Boolean av.Null

-- the column v
abbrev pub v : Expr
v = expr.column (codes "v")

-- the value of an expression without columns
abbrev pub alone : Expr → AnyValue
alone e = value e (frame_of [] []) 0
