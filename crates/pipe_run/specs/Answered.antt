-- What a run answers, and what it leaves of its stores.
use Rattle.std.specs.Prelude.{◌≡◌, ◌+◌, ◌<◌, ℕ, true, List, All, length, map, slice_index_or}
use Rattle.pipe_columns.specs.Row.{Row}
use Rattle.pipe_model.specs.Answer.{answer}
use Rattle.pipe_plan.specs.declared.event.PartitionEvent.{PartitionEvent}
use Rattle.pipe_plan.specs.Frames.{AreOfPieces}
use Rattle.pipe_plan.specs.Journals.{AreWhole, journal_of}
use Rattle.pipe_plan.specs.Overflow.{overflow_count}
use Rattle.pipe_plan.specs.Replay.{replay}
use Rattle.pipe_plan.specs.Run.{Run, StoreSeen, tells}
use Rattle.pipe_global.specs.Partition.{frame_bytes_of, no_store, store_of, with_frames}
use Rattle.pipe_run.specs.declared.output.GroupByOutput.{GroupByOutput}

-- a store has the frames that were there before the run, and then these
pub record HasFrames (before : StoreSeen) (r : Run) (frames : List (List Row)) (s : StoreSeen)
    : Type 0 where
  pub told : s.told ≡ with_frames before.told (map (frame_bytes_of r.query) frames)
  pub held : s.held ≡ before.held + length frames
  pub sure : s.sure ≡ before.sure
  pub path : s.path ≡ before.path

-- the stores of a run have their former frames, and then those of the replay of their journals
pub record HaveReplayedFrames (r : Run) (journals : List (List PartitionEvent))
    (stores : List StoreSeen) : Type 0 where
  pub count : length stores ≡ r.limits.partitions
  pub each : (p : ℕ) → p < r.limits.partitions
      → HasFrames (store_of r p) r (replay r p (journal_of journals p)).frames
      (slice_index_or stores p no_store)

-- what it means that a run was answered: the journals hold every worker's plan whole, and no event of
-- another; each store has its former frames, and then those of the replay; as many rows overflowed as
-- the definition says; and where all stores tell, the frame is the answer over the chunks
pub record IsAnswered (r : Run) (out : GroupByOutput) (stores : List StoreSeen) : Type 0 where
  pub plans : AreWhole r out.journals
  pub count : length out.journals ≡ r.limits.partitions
  pub frames : HaveReplayedFrames r out.journals stores
  pub overflow : out.overflow ≡ overflow_count r
  pub answer : All (λ s. tells s ≡ true) r.stores
      → out.frame ≡ answer r.chunks r.query r.limits.partitions

-- a store has its former frames, and then whole frames of the run, each of pieces joined that stand in
-- no other
pub record HasWholeFrames (r : Run) (p : ℕ) (s : StoreSeen) : Type 0 where
  pub frames : List (List Row)
  pub pieces : AreOfPieces r p frames
  pub has : HasFrames (store_of r p) r frames s

-- this is so of all stores, in order
pub record HaveWholeFrames (r : Run) (stores : List StoreSeen) : Type 0 where
  pub count : length stores ≡ r.limits.partitions
  pub each : (p : ℕ) → p < r.limits.partitions
      → HasWholeFrames r p (slice_index_or stores p no_store)
