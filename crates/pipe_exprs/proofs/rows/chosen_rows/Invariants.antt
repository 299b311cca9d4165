use Rattle.std.proofs.Common.{◌≡◌, map}
use Rattle.std.specs.List.{range_with_len}
use Rattle.pipe_exprs.specs.Operands.{operand_at}
use Rattle.pipe_model.specs.Operators.{chosen}
use Rattle.pipe_exprs.proofs.rows.chosen_rows.Given as goal

-- the values of the rows so far
abbrev pub invariant-loop-row : goal.invariant-loop-row
invariant-loop-row l = l.values.items ≡ map (λ row. chosen (operand_at l.predicate row) (operand_at l.truthy row) (operand_at l.falsy row)) (range_with_len 0 l.row)
