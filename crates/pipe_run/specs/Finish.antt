-- Why a run that was fed gives no answer.
use Rattle.std.specs.Prelude.{◌≡◌, ◌<◌, ◌≤◌, ℕ, None, List, length, slice_index_or, ⊤}
use Rattle.pipe_plan.specs.Run.{StoreSeen}
use Rattle.pipe_global.specs.Partition.{no_store}
use Rattle.pipe_run.specs.declared.error.PipeError.{PipeError}
use Rattle.pipe_run.specs.declared.error.PipeError.TheVariants as error
use Rattle.pipe_run.specs.Failing.{IsFirstFailed}
use Rattle.pipe_run.specs.Fed.{FedSeen}

-- a store doesn't tell, and a frame of this number was put since
pub record HasPutUntold (former now : StoreSeen) (n : ℕ) : Type 0 where
  pub untold : former.told ≡ None
  pub first : former.held ≤ n
  pub last : n < now.held

-- why a run that was fed gives no answer: the store that is named is the first whose faults rose since;
-- or a store doesn't tell, and the frame that is named is one that the run put there; or memory ran out
abbrev pub IsFinishCause : FedSeen → List StoreSeen → PipeError → Type 0
IsFinishCause s stores (error.Store p) = IsFirstFailed s.stores stores p
IsFinishCause s stores (error.Damaged p n) = (p < length stores)
    × HasPutUntold (slice_index_or s.setting.stores p no_store) (slice_index_or stores p no_store) n
IsFinishCause s stores error.Memory = ⊤
IsFinishCause s stores error.Limits = ⊥
IsFinishCause s stores (error.Query f) = ⊥
IsFinishCause s stores error.Sink = ⊥
IsFinishCause s stores (error.Schema i) = ⊥
IsFinishCause s stores error.TooLarge = ⊥
