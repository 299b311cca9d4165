-- What asking leaves of partitions.
use Rattle.std.specs.Prelude.{◌≡◌, ◌<◌, ℕ, List, length, slice_index_or}
use Rattle.pipe_columns.specs.Causes.{Rose}
use Rattle.pipe_global.specs.Finishing.{KeepsRest}
use Rattle.pipe_global.specs.Partition.{PartitionSeen}

-- partitions that were asked for their groups: as many, in order, each with its number, journal and
-- book and the frames of its store as before
pub record AreSamePartitions (before after : List PartitionSeen) : Type 0 where
  pub count : length after ≡ length before
  pub each : (p : ℕ) (d : PartitionSeen) → p < length before
      → KeepsRest (slice_index_or before p d) (slice_index_or after p d)

-- since these partitions the count of faults of a store rose, and of no one in front of it
pub record RoseFrom (before : List PartitionSeen) (p : ℕ) (closed : List PartitionSeen)
    : Type 0 where
  pub exists : p < length before
  pub rose : (d : PartitionSeen)
      → Rose (slice_index_or before p d).store.faults (slice_index_or closed p d).store.faults
  pub least : (k : ℕ) (d : PartitionSeen) → k < p
      → (slice_index_or closed k d).store.faults ≡ (slice_index_or before k d).store.faults

-- each store's count of faults is as it was before
abbrev pub CountOn : List PartitionSeen → List PartitionSeen → Type 0
CountOn before closed =
    (p : ℕ) (d : PartitionSeen) → p < length before
    → (slice_index_or closed p d).store.faults ≡ (slice_index_or before p d).store.faults
