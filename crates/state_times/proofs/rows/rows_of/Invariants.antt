-- Each row so far has two numbers.
use Rattle.std.proofs.Common.{[], ◌∷◌}
use Rattle.pipe_columns.specs.declared.data_type.DataType.TheVariants as dt
use Rattle.pipe_spill.specs.SpillRow.{HaveInputs}
use Rattle.state_times.proofs.rows.rows_of.Given as goal

abbrev pub invariant-loop-group : goal.invariant-loop-group
invariant-loop-group l = HaveInputs (dt.Int64 ∷ dt.Int64 ∷ []) l.rows.items
