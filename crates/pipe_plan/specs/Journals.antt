-- Journals that hold plans: fronts of them, or whole ones.
use Rattle.std.specs.Prelude.{◌≡◌, ◌<◌, ℕ, List, [], length, All}
use Rattle.std.specs.List.{range_with_len, slice_index_or, sum_by}
use Rattle.pipe_plan.specs.declared.event.PartitionEvent.{PartitionEvent}
use Rattle.pipe_plan.specs.Plan.{plan}
use Rattle.pipe_plan.specs.Replay.{events_by, worker_of}
use Rattle.pipe_plan.specs.Rounds.{IsFront}
use Rattle.pipe_plan.specs.Run.{Run}

-- each event is of one of a run's workers
abbrev pub AreOfWorkers : Run → List PartitionEvent → Type 0
AreOfWorkers r events = All (λ e. worker_of e < r.limits.workers) events

-- a journal of partition p holds a front of each worker's plan, and nothing else
pub record IsWithin (r : Run) (p : ℕ) (journal : List PartitionEvent) : Type 0 where
  pub workers : AreOfWorkers r journal
  pub plans : (w : ℕ) → w < r.limits.workers → IsFront (events_by w journal) (plan r w p)

-- a journal of partition p holds each worker's whole plan, and nothing else
pub record IsWhole (r : Run) (p : ℕ) (journal : List PartitionEvent) : Type 0 where
  pub workers : AreOfWorkers r journal
  pub plans : (w : ℕ) → w < r.limits.workers → events_by w journal ≡ plan r w p

-- the journal of partition p among those of all partitions
abbrev pub journal_of : List (List PartitionEvent) → ℕ → List PartitionEvent
journal_of journals p = slice_index_or journals p []

-- the journal of each partition holds a front of each worker's plan, and nothing else
abbrev pub AreWithin : Run → List (List PartitionEvent) → Type 0
AreWithin r journals = (p : ℕ) → p < r.limits.partitions → IsWithin r p (journal_of journals p)

-- the journal of each partition holds each worker's whole plan, and nothing else
abbrev pub AreWhole : Run → List (List PartitionEvent) → Type 0
AreWhole r journals = (p : ℕ) → p < r.limits.partitions → IsWhole r p (journal_of journals p)

-- how many events all plans have
abbrev pub planned_count : Run → ℕ
planned_count r =
    sum_by (λ p. sum_by (λ w. length (plan r w p)) (range_with_len 0 r.limits.workers))
    (range_with_len 0 r.limits.partitions)

-- how many events the journals of all partitions hold
abbrev pub journal_count : Run → List (List PartitionEvent) → ℕ
journal_count r journals =
    sum_by (λ p. length (journal_of journals p)) (range_with_len 0 r.limits.partitions)
