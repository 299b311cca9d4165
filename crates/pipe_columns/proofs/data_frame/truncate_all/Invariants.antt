use Rattle.std.proofs.Common.{◌≡◌}
use Rattle.pipe_columns.specs.Frame.{truncated}
use Rattle.pipe_columns.proofs.FrameFacts.{changed}
use Rattle.pipe_columns.proofs.data_frame.truncate_all.Given as goal

abbrev pub invariant-loop-i : goal.invariant-loop-i
invariant-loop-i l = l.columns ≡ changed (truncated l.len) l.i l.fn.columns
