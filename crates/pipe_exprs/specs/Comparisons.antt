-- Of the proofs alone: which comparison an operator is.
use Rattle.std.specs.Prelude.{Bool, false}
use Rattle.std.specs.declared.cmp.Ordering.{Ordering}
use Rattle.std.specs.Ordering.{is_eq, is_ne, is_lt, is_le, is_gt, is_ge}
use Rattle.pipe_columns.specs.declared.operator.Operator.{Operator}
use Rattle.pipe_columns.specs.declared.operator.Operator.TheVariants as op

-- whether a comparison holds of an order: what is no comparison holds of none
abbrev pub compares : Operator → Ordering → Bool
compares op.Eq order = is_eq order
compares op.NotEq order = is_ne order
compares op.Lt order = is_lt order
compares op.LtEq order = is_le order
compares op.Gt order = is_gt order
compares op.GtEq order = is_ge order
compares o order = false
