use Rattle.std.proofs.Common.{◌≡◌, map}
use Rattle.std.specs.List.{range_with_len}
use Rattle.pipe_exprs.specs.Operands.{operand_at}
use Rattle.pipe_model.specs.Operators.{cast_value}
use Rattle.pipe_exprs.proofs.rows.cast_rows.Given as goal

-- the values of the rows so far
abbrev pub invariant-loop-row : goal.invariant-loop-row
invariant-loop-row l = l.values.items ≡ map (λ row. cast_value l.dtype (operand_at l.input row)) (range_with_len 0 l.row)
