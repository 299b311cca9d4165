-- What the worked rows are about.
use Rattle.std.specs.Prelude.{List, [], ◌∷◌, codes, pos, true}
use Rattle.pipe_columns.specs.declared.any_value.AnyValue.TheVariants as av
use Rattle.pipe_columns.specs.declared.data_type.DataType.TheVariants as dt
use Rattle.pipe_columns.specs.declared.operator.Operator.TheVariants as op
use Rattle.pipe_columns.specs.Frame.{FrameData}
use Rattle.pipe_exprs.specs.declared.expression.AExpr.{AExpr}
use Rattle.pipe_exprs.specs.declared.expression.AExpr.TheVariants as ax

-- the sum of v and v, and the sum of that with itself
abbrev pub shared_sum : List AExpr
shared_sum =
    ax.Column (codes "v")
    ∷ ax.BinaryExpr (record { 0 = 0 }) op.Plus (record { 0 = 0 })
    ∷ ax.BinaryExpr (record { 0 = 1 }) op.Plus (record { 0 = 1 }) ∷ []

-- a frame with the column v of Int8, flagged as sorted: 127 and null
abbrev pub two_rows : FrameData
two_rows = record {
  height = 2;
  columns = record {
    name = codes "v";
    dtype = dt.Int8;
    sorted = true;
    values = av.Int (pos 127) ∷ av.Null ∷ [];
  } ∷ [];
}
