-- Of the proofs alone: the error of a round that stopped, and of partitions that give no groups.
use Rattle.pipe_global.specs.declared.batch_error.BatchError.{BatchError}
use Rattle.pipe_global.specs.declared.batch_error.BatchError.TheVariants as batch_error
use Rattle.pipe_run.specs.declared.error.PipeError.{PipeError}
use Rattle.pipe_run.specs.declared.error.PipeError.TheVariants as error
use Rattle.pipe_run.specs.declared.round.RoundStop.{RoundStop}
use Rattle.pipe_run.specs.declared.round.RoundStop.TheVariants as stop

-- a store's fault, or want of memory
abbrev pub error_of : RoundStop → PipeError
error_of (stop.Store p) = error.Store p
error_of stop.Memory = error.Memory

-- a store's fault, a frame that isn't the one that was put, or want of memory
abbrev pub error_of_groups : BatchError → PipeError
error_of_groups (batch_error.Store p) = error.Store p
error_of_groups (batch_error.Damaged p n) = error.Damaged p n
error_of_groups batch_error.Memory = error.Memory
