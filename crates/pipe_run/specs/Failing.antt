-- Which stores failed between two looks at them.
use Rattle.std.specs.Prelude.{◌≡◌, ◌<◌, ℕ, List, length, slice_index_or}
use Rattle.pipe_columns.specs.Causes.{Rose}
use Rattle.pipe_plan.specs.Run.{StoreSeen}
use Rattle.pipe_global.specs.Partition.{no_store}

-- there are as many stores, and each one's count of faults is as it was
pub record NoneFailed (before after : List StoreSeen) : Type 0 where
  pub count : length after ≡ length before
  pub each : (p : ℕ) → p < length before
      → (slice_index_or after p no_store).faults ≡ (slice_index_or before p no_store).faults

-- a store's count of faults rose, and each one's in front of it is as it was
pub record IsFirstFailed (before after : List StoreSeen) (p : ℕ) : Type 0 where
  pub exists : p < length after
  pub rose :
      Rose (slice_index_or before p no_store).faults (slice_index_or after p no_store).faults
  pub least : (k : ℕ) → k < p
      → (slice_index_or after k no_store).faults ≡ (slice_index_or before k no_store).faults
