use Rattle.std.proofs.Common.{◌≡◌}
use Rattle.pipe_columns.specs.Frame.{unsorted}
use Rattle.pipe_columns.proofs.FrameFacts.{changed}
use Rattle.pipe_columns.proofs.data_frame.clear_all.Given as goal

abbrev pub invariant-loop-i : goal.invariant-loop-i
invariant-loop-i l = l.columns ≡ changed unsorted l.i l.fn.columns
