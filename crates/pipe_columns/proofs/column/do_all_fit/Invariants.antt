use Rattle.std.proofs.Common.{take}
use Rattle.pipe_columns.specs.Frame.{AreOfType}
use Rattle.pipe_columns.proofs.column.do_all_fit.Given as goal

-- the values so far are of the type
abbrev pub invariant-loop-value : goal.invariant-loop-value
invariant-loop-value l = AreOfType l.dtype (take l.value-index l.values)
