use Rattle.std.proofs.Common.{◌≡◌}
use Rattle.pipe_columns.proofs.FrameFacts.{changed}
use Rattle.pipe_kinds.specs.Columns.{cleared}
use Rattle.pipe_kinds.proofs.columns.clear_all.Given as goal

abbrev pub invariant-loop-j : goal.invariant-loop-j
invariant-loop-j l = l.columns ≡ changed cleared l.j l.fn.columns
