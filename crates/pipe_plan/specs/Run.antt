-- A run, and the rows that it hands to each worker.
use Rattle.std.specs.Prelude.{◌≡◌, ◌<◌, ℕ, Bool, true, false, ◌==◌, ◌%◌, List, Option, is_some}
use Rattle.std.specs.List.{filter}
use Rattle.pipe_columns.specs.declared.data_chunk.DataChunk.{DataChunk}
use Rattle.pipe_columns.specs.Row.{Row}
use Rattle.pipe_model.specs.Query.{QueryTree}
use Rattle.pipe_model.specs.Rows.{rows}
use Rattle.pipe_plan.specs.declared.event.SpillAction.{SpillAction}
use Rattle.pipe_plan.specs.declared.limits.Limits.{Limits}
use Rattle.pipe_plan.specs.declared.limits.SinkKind.{SinkKind}
use Rattle.pipe_plan.specs.declared.limits.SinkKind.TheVariants as sink_kind

-- a store as a run finds it: how many frames it holds, which it tells, its faults, if it is
-- sure, and the path of its file, if it has one
pub record StoreSeen : Type 0 where
  pub held : ℕ
  pub told : Option (List (List ℕ))
  pub faults : ℕ
  pub sure : Bool
  pub path : Option (List ℕ)

-- whether a store tells its frames
abbrev pub tells : StoreSeen → Bool
tells s = is_some s.told

-- a run: chunks fed so far, query, limits, each worker's actions and its rule for all turns past
-- them, if more may follow, stores
pub record Run : Type 0 where
  pub chunks : List DataChunk
  pub query : QueryTree
  pub limits : Limits
  pub actions : List (List SpillAction)
  pub rules : List SpillAction
  pub is_open : Bool
  pub stores : List StoreSeen

-- whether what a worker doesn't keep overflows: a typed sink keeps all
abbrev pub is_generic : SinkKind → Bool
is_generic sink_kind.Generic = true
is_generic sink_kind.Primitive = false
is_generic sink_kind.Text = false

-- limits with at least one worker, one partition, and one row to a buffer
pub record AreLimits (l : Limits) : Type 0 where
  pub workers : 0 < l.workers
  pub partitions : 0 < l.partitions
  pub buffer : 0 < l.buffer_size

-- a run whose workers keep some keys and send the rows of others
pub record Spills (r : Run) : Type 0 where
  pub limits : AreLimits r.limits
  pub generic : is_generic r.limits.sink ≡ true

-- the rows of a run, in order
abbrev pub all_rows : Run → List Row
all_rows r = rows r.chunks r.query

-- whether the chunk at a position is a worker's: its position modulo the workers is the worker
abbrev pub is_turn_of : Run → ℕ → ℕ → Bool
is_turn_of r w i = i % r.limits.workers == w

-- the rows of a worker's chunks, in order
abbrev pub of_worker : Run → ℕ → List Row
of_worker r w = filter (λ x. is_turn_of r w x.place.chunk) (all_rows r)
