use Rattle.std.proofs.Common.{◌≡◌}
use Rattle.pipe_columns.proofs.FrameFacts.{changed}
use Rattle.pipe_kinds.specs.Columns.{released}
use Rattle.pipe_kinds.proofs.columns.release_all.Given as goal

abbrev pub invariant-loop-j : goal.invariant-loop-j
invariant-loop-j l = l.columns ≡ changed released l.j l.fn.columns
