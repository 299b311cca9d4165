-- Partitions out of their locks, and what all shares say of them.
use Rattle.std.specs.Prelude.{◌≡◌, ◌<◌, ◌≤◌, ◌↔◌, ℕ, Bool, true, false, List, length, slice_index_or, sum, sum_by}
use Rattle.std.specs.List.{list_any}
use Rattle.pipe_columns.specs.Causes.{Rose}
use Rattle.pipe_plan.specs.Run.{Run}
use Rattle.pipe_global.specs.Partition.{IsReplayed, PartitionSeen, store_of}
use Rattle.pipe_global.specs.Shares.{SharesSeen}

-- partition p of a run that ended: it stands for its journal; where a put was refused its count of
-- faults rose, and else it is as the run found it
pub record IsClosed (r : Run) (p : ℕ) (s : PartitionSeen) : Type 0 where
  pub replayed : IsReplayed r p s
  pub rose : s.failed ≡ true → Rose (store_of r p).faults s.store.faults
  pub calm : s.failed ≡ false → s.store.faults ≡ (store_of r p).faults
  pub count : (store_of r p).faults ≤ s.store.faults

-- how many events the journals of partitions hold
abbrev pub all_events : List PartitionSeen → ℕ
all_events partitions = sum_by (λ s. length s.journal) partitions

-- how many events workers made
abbrev pub all_shares : List SharesSeen → ℕ
all_shares shares = sum_by (λ s. sum s.events) shares

-- whether a put was refused in some partition
abbrev pub has_failed : List PartitionSeen → Bool
has_failed partitions = list_any (λ s. s.failed) partitions

-- how many puts of workers were refused
abbrev pub all_faults : List SharesSeen → ℕ
all_faults shares = sum_by (λ s. sum s.faults) shares

-- these are all partitions of a run, or the first of them
abbrev pub AreClosed : Run → List PartitionSeen → Type 0
AreClosed r partitions =
    (p : ℕ) (d : PartitionSeen) → p < length partitions → IsClosed r p (slice_index_or partitions p d)

-- a put was refused in some partition exactly where so many puts are more than none
abbrev pub AreFailed : List PartitionSeen → ℕ → Type 0
AreFailed partitions refused = (has_failed partitions ≡ true) ↔ (0 < refused)
