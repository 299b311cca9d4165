use Rattle.std.proofs.Common.{◌≡◌, ◌<◌, ℕ, false, slice_index_or}
use Rattle.pipe_run.proofs.failed.failed_one.Given as goal

-- no partition before is failed
abbrev pub invariant-loop-partition : goal.invariant-loop-partition
invariant-loop-partition g l = (p : ℕ) (d : _) → p < l.partition → (slice_index_or l.closed p d).failed ≡ false
