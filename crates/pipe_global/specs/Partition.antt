-- A partition, as contracts see it, and what it means that it stands for a run.
use Rattle.std.specs.Prelude.{◌≡◌, ◌+◌, ◌-◌, ◌^◌, ◌<◌, ◌≤◌, ◌↔◌, ℕ, Bool, true, false, List, [], ◌∷◌, ◌++◌, All, length, map, Option, None, option_map, slice_index_or}
use Rattle.pipe_columns.specs.Causes.{Rose}
use Rattle.pipe_columns.specs.Row.{Row}
use Rattle.pipe_aggs.specs.CheckedQuery.{input_types}
use Rattle.pipe_model.specs.Groupable.{IsGroupable}
use Rattle.pipe_model.specs.Output.{key_types}
use Rattle.pipe_model.specs.Query.{QueryTree}
use Rattle.pipe_plan.specs.declared.event.PartitionEvent.{PartitionEvent}
use Rattle.pipe_plan.specs.Journals.{IsWithin}
use Rattle.pipe_plan.specs.Replay.{events_by, replay, Replayed}
use Rattle.pipe_plan.specs.Run.{all_rows, AreLimits, Run, StoreSeen}
use Rattle.pipe_plan.specs.Whole.{rows_of}
use Rattle.pipe_spill.specs.FrameBytes.{frame_bytes}
use Rattle.pipe_spill.specs.SpillRow.{HasValues, Payload, payload_of, spilled}
use Rattle.pipe_spill.specs.declared.spill_row.SpillRow.{SpillRow}
use Rattle.pipe_groups.specs.Holds.{Holds}
use Rattle.pipe_groups.specs.Shape.{shape_of}
use Rattle.pipe_keyed.specs.Tables.{Table}
use Rattle.pipe_global.specs.declared.mark.Mark.{Mark}

-- its number of how many partitions, its table, waiting payloads and store, a mark for each frame that
-- it put, its journal, how many events of it are each worker's, how many rows arrived, and whether a
-- put was refused
pub record PartitionSeen : Type 0 where
  pub number : ℕ
  pub partitions : ℕ
  pub table : Table
  pub waiting : List Payload
  pub store : StoreSeen
  pub marks : List Mark
  pub journal : List PartitionEvent
  pub book : List ℕ
  pub arrived : ℕ
  pub failed : Bool

-- ---- the run

-- a run that can be made: its query has no fault, its rows are of its types and fewer than 2^32, and
-- each partition has a store with numbers left for its frames
pub record IsRunnable (r : Run) : Type 0 where
  pub limits : AreLimits r.limits
  pub query : IsGroupable r.query
  pub typed : All (HasValues (key_types r.query) (input_types r.query)) (all_rows r)
  pub few : length (all_rows r) < 2 ^ 32
  pub stores : length r.stores ≡ r.limits.partitions
  pub former : All (λ s. s.held < 2 ^ 63) r.stores

-- what stands for the store past the last
abbrev pub no_store : StoreSeen
no_store = record { held = 0; told = None; faults = 0; sure = false; path = None }

-- the store of partition p, as the run found it
abbrev pub store_of : Run → ℕ → StoreSeen
store_of r p = slice_index_or r.stores p no_store

-- ---- rows and frames of a query

-- rows as they are spilled
abbrev pub spilled_all : QueryTree → List Row → List SpillRow
spilled_all q rows = map (spilled (key_types q)) rows

-- pieces as they are sent
abbrev pub payloads_of : QueryTree → List (List Row) → List Payload
payloads_of q pieces = map (payload_of (key_types q)) pieces

-- the bytes of the frame of rows
abbrev pub frame_bytes_of : QueryTree → List Row → List ℕ
frame_bytes_of q rows = frame_bytes (input_types q) (spilled_all q rows)

-- the number and the row count of each frame, numbered from the first on
abbrev pub marks_from : ℕ → List (List Row) → List Mark
marks_from first [] = []
marks_from first (frame ∷ frames) =
    record { number = first; rows = length frame } ∷ marks_from (first + 1) frames

-- told frames, and more behind them
abbrev pub with_frames : Option (List (List ℕ)) → List (List ℕ) → Option (List (List ℕ))
with_frames told more = option_map (λ frames. frames ++ more) told

-- ---- what it stands for

-- it holds what events made of partition p: the rows merged, the pieces that wait, a mark for each
-- frame; and its store has the frames that were there before, and then these
pub record StandsFor (r : Run) (p : ℕ) (made : Replayed) (s : PartitionSeen) : Type 0 where
  pub merged : Holds s.table.shape.prototypes s.table.groups (spilled_all r.query made.merged)
  pub waiting : s.waiting ≡ payloads_of r.query made.waiting
  pub marks : s.marks ≡ marks_from (store_of r p).held made.frames
  pub held : s.store.held ≡ (store_of r p).held + length made.frames
  pub told :
      s.store.told ≡ with_frames (store_of r p).told (map (frame_bytes_of r.query) made.frames)
  pub arrived : s.arrived ≡ length (rows_of made)

-- it is partition p of a run: it stands for the replay of its journal, which holds a front of each
-- worker's plan, as many events as the worker's book says
pub record IsReplayed (r : Run) (p : ℕ) (s : PartitionSeen) : Type 0 where
  pub number : s.number ≡ p
  pub in_run : p < r.limits.partitions
  pub partitions : s.partitions ≡ r.limits.partitions
  pub shape : s.table.shape ≡ shape_of r.query
  pub limit : s.table.limit ≡ None
  pub replayed : StandsFor r p (replay r p s.journal) s
  pub numbers : s.store.held < 2 ^ 64 - 1
  pub sure : s.store.sure ≡ (store_of r p).sure
  pub path : s.store.path ≡ (store_of r p).path
  pub journal : IsWithin r p s.journal
  pub workers : length s.book ≡ r.limits.workers
  pub book :
      (w : ℕ) → w < r.limits.workers → slice_index_or s.book w 0 ≡ length (events_by w s.journal)

-- where a put was refused its count of faults rose, and else it is as the run found it
pub record IsCounted (r : Run) (refused : ℕ) (s : PartitionSeen) : Type 0 where
  pub failed : (s.failed ≡ true) ↔ (0 < refused)
  pub rose : s.failed ≡ true → Rose (store_of r s.number).faults s.store.faults
  pub calm : s.failed ≡ false → s.store.faults ≡ (store_of r s.number).faults
  pub count : (store_of r s.number).faults ≤ s.store.faults

-- ---- before the first event

-- a partition before its first event, one of so many, of a table, a book and a store
abbrev pub new_partition : ℕ → ℕ → Table → List ℕ → StoreSeen → PartitionSeen
new_partition number partitions table book store = record {
  number = number;
  partitions = partitions;
  table = table;
  waiting = [];
  store = store;
  marks = [];
  journal = [];
  book = book;
  arrived = 0;
  failed = false;
}
