-- What a run that is fed in rounds keeps between its calls.
use Rattle.std.specs.Prelude.{◌≡◌, ◌<◌, ◌^◌, ℕ, false, true, List, [], length, slice_index_or}
use Rattle.pipe_columns.specs.declared.data_chunk.DataChunk.{DataChunk}
use Rattle.pipe_aggs.specs.QueryTrees.{query_tree}
use Rattle.pipe_model.specs.Rows.{AreChunksOf, total_height}
use Rattle.pipe_columns.specs.Causes.{Rose}
use Rattle.pipe_groups.specs.Holds.{Holds}
use Rattle.pipe_groups.specs.Shape.{Shape, shape_of}
use Rattle.pipe_plan.specs.declared.event.PartitionEvent.{PartitionEvent}
use Rattle.pipe_plan.specs.declared.limits.Limits.{Limits}
use Rattle.pipe_plan.specs.Plan.{picks_before, plan, turns_before}
use Rattle.pipe_plan.specs.Run.{is_generic, of_worker, Run, StoreSeen}
use Rattle.pipe_plan.specs.Whole.{kept_rows}
use Rattle.pipe_tables.specs.After.{IsAfter}
use Rattle.pipe_tables.specs.LocalTable.{NoneWaits}
use Rattle.pipe_global.specs.Partition.{IsReplayed, IsRunnable, PartitionSeen, spilled_all, store_of}
use Rattle.pipe_workers.specs.declared.paused.PausedWorker.{PausedWorker}
use Rattle.pipe_run.specs.Setting.{run_over, Setting}

-- how a run was begun, the chunks that were fed, and each partition's journal and store
pub record FedSeen : Type 0 where
  pub setting : Setting
  pub chunks : List DataChunk
  pub journals : List (List PartitionEvent)
  pub stores : List StoreSeen

-- a worker has taken all its chunks
pub record IsRested (r : Run) (w : ℕ) (rest : PausedWorker) : Type 0 where
  pub table : IsAfter r.limits (shape_of r.query) (of_worker r w) rest.table
  pub turns : rest.turns ≡ length (turns_before r w (length r.chunks))
  pub picks : rest.picks ≡ picks_before r w (length r.chunks)

-- a closed partition stands for a run, holds the whole plan of each worker, and no put of it was
-- refused
pub record IsWholePartition (r : Run) (p : ℕ) (s : PartitionSeen) : Type 0 where
  pub replayed : IsReplayed r p s
  pub sound : s.failed ≡ false
  pub whole :
      (w : ℕ) → w < r.limits.workers → slice_index_or s.book w 0 ≡ length (plan r w p)

-- a worker before its first chunk
pub record IsUnused (l : Limits) (s : Shape) (rest : PausedWorker) : Type 0 where
  pub table : IsAfter l s [] rest.table
  pub turns : rest.turns ≡ 0
  pub picks : rest.picks ≡ 0

-- the partitions of a run, in order, hold all plans whole
pub record AreWholePartitions (r : Run) (closed : List PartitionSeen) : Type 0 where
  pub count : length closed ≡ r.limits.partitions
  pub each : (p : ℕ) (d : PartitionSeen) → p < length closed
      → IsWholePartition r p (slice_index_or closed p d)

-- the workers of a run, in order, have taken all their chunks
pub record AreRested (r : Run) (rests : List PausedWorker) : Type 0 where
  pub count : length rests ≡ r.limits.workers
  pub each : (w : ℕ) (d : PausedWorker) → w < length rests → IsRested r w (slice_index_or rests w d)

-- the chunks of a run were fed: partitions hold all plans whole, and workers rest
pub record IsFed (r : Run) (closed : List PartitionSeen) (rests : List PausedWorker) : Type 0 where
  pub run : IsRunnable r
  pub partitions : AreWholePartitions r closed
  pub workers : AreRested r rests

-- a run in rounds keeps that its chunks were fed, how many rows they have, and that its query may be
-- asked of them
pub record IsFedRun (x : Setting) (chunks : List DataChunk) (closed : List PartitionSeen)
    (rests : List PausedWorker) (rows : ℕ) : Type 0 where
  pub generic : is_generic x.limits.sink ≡ true
  pub few : x.limits.partitions < 2 ^ 32
  pub chunks_are : AreChunksOf (query_tree x.query) chunks
  pub fed : IsFed (run_over x true chunks) closed rests
  pub rows_are : rows ≡ total_height chunks

-- ---- the end of a run

-- a worker that has closed keeps the rows of its kept keys, and none waits
pub record HasKept (r : Run) (w : ℕ) (rest : PausedWorker) : Type 0 where
  pub shape : rest.table.table.shape ≡ shape_of r.query
  pub holds : Holds (shape_of r.query).prototypes rest.table.table.groups
      (spilled_all r.query (kept_rows r w))
  pub none_waits : NoneWaits rest.table

-- the workers of a run, in order, have closed
pub record HaveKept (r : Run) (rests : List PausedWorker) : Type 0 where
  pub count : length rests ≡ r.limits.workers
  pub each : (w : ℕ) (d : PausedWorker) → w < length rests → HasKept r w (slice_index_or rests w d)

-- the workers of a run have taken all their chunks, and closed where no more may follow
pub record HaveEnded (r : Run) (rests : List PausedWorker) : Type 0 where
  pub open_run : r.is_open ≡ true → AreRested r rests
  pub closed_run : r.is_open ≡ false → HaveKept r rests

-- ---- a run that was refused

-- each partition, in order, stands for a run, with a front of every worker's plan
pub record AllStand (r : Run) (closed : List PartitionSeen) : Type 0 where
  pub count : length closed ≡ r.limits.partitions
  pub each : (p : ℕ) (d : PartitionSeen) → p < length closed
      → IsReplayed r p (slice_index_or closed p d)

-- since the run the count of faults of a partition's store rose, and of no one in front of it
pub record RoseAt (r : Run) (p : ℕ) (closed : List PartitionSeen) : Type 0 where
  pub exists : p < r.limits.partitions
  pub rose :
      (d : PartitionSeen) → Rose (store_of r p).faults (slice_index_or closed p d).store.faults
  pub least : (k : ℕ) (d : PartitionSeen) → k < p
      → (slice_index_or closed k d).store.faults ≡ (store_of r k).faults

-- ---- counts of faults

-- each store's count of faults is as the run found it
abbrev pub AreCounted : Run → List PartitionSeen → Type 0
AreCounted r closed =
    (p : ℕ) (d : PartitionSeen) → p < length closed
    → (slice_index_or closed p d).store.faults ≡ (store_of r p).faults
