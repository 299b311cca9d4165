-- A round: some chunks of a run, and how each worker leaves it.
use Rattle.std.specs.Prelude.{◌≡◌, ℕ, Bool, true, false, List, ◌++◌, length, Option, None, Some}
use Rattle.pipe_columns.specs.declared.data_chunk.DataChunk.{DataChunk}
use Rattle.pipe_plan.specs.declared.event.SpillAction.{SpillAction}
use Rattle.pipe_plan.specs.Run.{Run}
use Rattle.pipe_workers.specs.Turns.{HasClosed, HasStopped, IsReady}
use Rattle.pipe_workers.specs.Workers.{WorkerSeen}
use Rattle.pipe_workers.specs.declared.stop.WorkerStop.{WorkerStop}

-- chunks from a position on, all workers' actions and rules, and whether more chunks may follow
pub record RoundSeen : Type 0 where
  pub first : ℕ
  pub chunks : List DataChunk
  pub actions : List (List SpillAction)
  pub rules : List SpillAction
  pub is_open : Bool

-- a round is the last chunks of a run, and has its actions and rules
pub record IsRoundOf (r : Run) (x : RoundSeen) : Type 0 where
  pub taken : List DataChunk
  pub chunks : r.chunks ≡ taken ++ x.chunks
  pub first : x.first ≡ length taken
  pub actions : r.actions ≡ x.actions
  pub rules : r.rules ≡ x.rules
  pub is_open : r.is_open ≡ x.is_open

-- a worker, and why it stopped, if it did
pub record JobSeen : Type 0 where
  pub worker : WorkerSeen
  pub end : Option WorkerStop

-- worker w has taken all its turns, and where no chunk may follow it has closed
pub record IsDone (r : Run) (w : ℕ) (s : WorkerSeen) : Type 0 where
  pub open_run : r.is_open ≡ true → IsReady r w (length r.chunks) s
  pub closed_run : r.is_open ≡ false → HasClosed r w s

-- worker w is done, or has stopped
abbrev pub HasEnded : Run → ℕ → JobSeen → Type 0
HasEnded r w job = by job.end where
  by : Option WorkerStop → Type 0
  by None = IsDone r w job.worker
  by (Some end) = HasStopped r w end job.worker
