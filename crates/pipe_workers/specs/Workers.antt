-- A worker, as contracts see it.
use Rattle.std.specs.Prelude.{◌≡◌, ◌+◌, ◌*◌, ℕ, Bool, true}
use Rattle.pipe_model.specs.Rows.{AreChunksOf}
use Rattle.pipe_plan.specs.Run.{is_generic, Run}
use Rattle.pipe_tables.specs.LocalTable.{Local}
use Rattle.pipe_global.specs.Partition.{IsRunnable}
use Rattle.pipe_global.specs.Shares.{SharesSeen}

-- its local table, its shares, how many turns it has taken, whether it closed, whether it stopped
pub record WorkerSeen : Type 0 where
  pub table : Local
  pub shares : SharesSeen
  pub turns : ℕ
  pub closed : Bool
  pub stopped : Bool

-- a run whose workers take turns: it can be made, they send what they don't keep, and its query may
-- be asked of its chunks
pub record TakesTurns (r : Run) : Type 0 where
  pub runnable : IsRunnable r
  pub generic : is_generic r.limits.sink ≡ true
  pub chunks : AreChunksOf r.query r.chunks

-- the position of the chunk that is a worker's next turn
abbrev pub next_position : Run → WorkerSeen → ℕ
next_position r s = s.shares.worker + s.turns * r.limits.workers
