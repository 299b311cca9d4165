use Rattle.std.proofs.Common.{◌<◌, ℕ, slice_index_or}
use Rattle.pipe_spill.specs.Store.{HasHeld}
use Rattle.pipe_run.proofs.answer.recall_told.Given as goal

-- the stores so far tell as many frames as they hold
abbrev pub invariant-loop-partition : goal.invariant-loop-partition
invariant-loop-partition g l =
    (p : ℕ) (d : _) → p < l.partition → HasHeld (slice_index_or l.closed p d).store.told (slice_index_or l.closed p d).store.held
