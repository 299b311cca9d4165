use Rattle.std.proofs.Common.{◌≡◌, ◌++◌, length}
use Rattle.pipe_spill.specs.Store.{contents}
use Rattle.summary_log.specs.Log.{log}
use Rattle.summary_log.proofs.log_parts.read_log.Given as goal

-- the frames so far, and the bytes behind their log
abbrev pub invariant-loop-frame : goal.invariant-loop-frame
invariant-loop-frame l = l.bytes ≡ log (contents l.frames.items) ++ l.rest

abbrev pub decreases-loop-frame : goal.decreases-loop-frame
decreases-loop-frame l = length l.rest
