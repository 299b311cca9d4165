-- What a run is resumed on, and the shares that it gives.
use Rattle.std.specs.Prelude.{◌≡◌, ◌<◌, ℕ, false, List, length, map, replicate, slice_index_or, sum}
use Rattle.std.specs.List.{range_with_len, sum_by}
use Rattle.pipe_plan.specs.Run.{Run}
use Rattle.pipe_global.specs.Partition.{IsReplayed, PartitionSeen, store_of}
use Rattle.pipe_global.specs.Shares.{SharesSeen}

-- a closed partition that a run takes over as its partition p: it stands for its journal in this run,
-- no put was refused, and its store's faults are those that the run finds
pub record IsTakenOver (r : Run) (p : ℕ) (s : PartitionSeen) : Type 0 where
  pub replayed : IsReplayed r p s
  pub sound : s.failed ≡ false
  pub faults : s.store.faults ≡ (store_of r p).faults

-- a run takes these over as its partitions, in order
abbrev pub AreTakenOver : Run → List PartitionSeen → Type 0
AreTakenOver r partitions =
    (p : ℕ) (d : PartitionSeen) → p < length partitions
    → IsTakenOver r p (slice_index_or partitions p d)

-- how many events of each partition are a worker's
abbrev pub books_of : List PartitionSeen → ℕ → List ℕ
books_of partitions worker = map (λ s. slice_index_or s.book worker 0) partitions

-- the shares of a worker that made so many picks, and in each partition the events of its book there
abbrev pub resumed_shares : List PartitionSeen → ℕ → ℕ → SharesSeen
resumed_shares partitions worker picks = record {
  worker = worker;
  picks = picks;
  events = books_of partitions worker;
  faults = replicate (length partitions) 0;
}

-- the shares of workers, in order, each with its number of picks
abbrev pub AreResumed : List PartitionSeen → List ℕ → List SharesSeen → Type 0
AreResumed partitions picks shares =
    (w : ℕ) (d : SharesSeen) → w < length shares
    → slice_index_or shares w d
    ≡ resumed_shares partitions w (slice_index_or picks w 0)

-- how many events of partitions are of the first so many workers, by their books
abbrev pub all_books : List PartitionSeen → ℕ → ℕ
all_books partitions workers =
    sum_by (λ w. sum (books_of partitions w)) (range_with_len 0 workers)
