-- Of the proofs alone: a worker within a turn, and as it closes.
use Rattle.std.specs.Prelude.{◌≡◌, ◌<◌, ◌≤◌, ◌++◌, ◌∷◌, [], ℕ, true, List, length, Some, slice_get, take, if◌then◌else◌}
use Rattle.pipe_columns.specs.declared.data_chunk.DataChunk.{DataChunk}
use Rattle.pipe_columns.specs.Row.{Row}
use Rattle.pipe_model.specs.Rows.{chunk_rows}
use Rattle.pipe_plan.specs.Payloads.{rest_of}
use Rattle.pipe_plan.specs.Overflow.{overflow}
use Rattle.pipe_plan.specs.declared.event.PartitionEvent.{PartitionEvent}
use Rattle.pipe_plan.specs.declared.event.SpillAction.{SpillAction}
use Rattle.pipe_plan.specs.Plan.{asks, events_before, events_of, picks_before, plan}
use Rattle.pipe_plan.specs.Progress.{events_made, rows_before}
use Rattle.pipe_plan.specs.Run.{is_turn_of, Run}
use Rattle.pipe_groups.specs.Shape.{shape_of}
use Rattle.pipe_tables.specs.After.{IsAfter}
use Rattle.pipe_tables.specs.Buffers.{waiting_in}
use Rattle.pipe_tables.specs.LocalTable.{Local}
use Rattle.pipe_global.specs.Partition.{spilled_all}
use Rattle.pipe_global.specs.Next.{next_event}
use Rattle.pipe_global.specs.Shares.{next_pick, one_more_pick, raised, share_of, SharesSeen}
use Rattle.pipe_workers.specs.Turns.{IsAfterTurns, no_faults}

-- these are the rows of the chunk at position i, which is a turn of worker w
pub record AreRowsOfTurn (r : Run) (w i : ℕ) (rows : List Row) : Type 0 where
  pub chunk : DataChunk
  pub at : slice_get r.chunks i ≡ Some chunk
  pub turn : is_turn_of r w i ≡ true
  pub rows_are : rows ≡ chunk_rows r.query i chunk.frame

-- the rows that a worker has taken with the first n of a turn
abbrev pub taken_with : Run → ℕ → ℕ → List Row → ℕ → List Row
taken_with r w i rows n = rows_before r w i ++ take n rows

-- in its turn at position i worker w has taken these rows
pub record IsInTurn (r : Run) (w i : ℕ) (taken : List Row) (t : Local) (s : SharesSeen)
    : Type 0 where
  pub table : IsAfter r.limits (shape_of r.query) taken t
  pub worker : s.worker ≡ w
  pub picks : s.picks ≡ picks_before r w i
  pub events : (p : ℕ) → p < r.limits.partitions → share_of s p ≡ events_made r w p i taken
  pub faults : s.faults ≡ no_faults r.limits.partitions

-- worker w has taken all its turns, and sent what waited in the partitions below p
pub record IsClosing (r : Run) (w p : ℕ) (t : Local) (s : SharesSeen) : Type 0 where
  pub worker : s.worker ≡ w
  pub faults : s.faults ≡ no_faults r.limits.partitions
  pub shape : t.table.shape ≡ shape_of r.query
  pub buffers : length t.buffers.rows ≡ r.limits.partitions
  pub sent : (q : ℕ) → q < p → share_of s q ≡ length (plan r w q)
  pub none : (q : ℕ) → q < p → waiting_in q t.buffers ≡ []
  pub unsent :
      (q : ℕ) → p ≤ q → q < r.limits.partitions
      → share_of s q ≡ length (events_before r w q (length r.chunks))
  pub waits :
      (q : ℕ) → p ≤ q → q < r.limits.partitions
      → waiting_in q t.buffers
      ≡ spilled_all r.query (rest_of r.limits.buffer_size (overflow r w q))

-- the event that an action asks for, if any, is next in the partition of the worker's pick
abbrev pub IsNextPick : Run → SpillAction → SharesSeen → Type 0
IsNextPick r a s =
    (e : PartitionEvent) → events_of s.worker a ≡ e ∷ []
    → next_event r s (next_pick r.limits.partitions s) ≡ Some e

-- a worker's shares, out of so many partitions, with the event that an action asks for, if any
abbrev pub after_action : ℕ → SpillAction → SharesSeen → SharesSeen
after_action partitions a s =
    if asks a then one_more_pick (raised s (next_pick partitions s)) else s

-- worker w comes to its turn at the position of a chunk
pub record IsAtTurn (r : Run) (w i : ℕ) (chunk : DataChunk) (t : Local) (s : SharesSeen)
    : Type 0 where
  pub at : slice_get r.chunks i ≡ Some chunk
  pub turn : is_turn_of r w i ≡ true
  pub after : IsAfterTurns r w i t s
