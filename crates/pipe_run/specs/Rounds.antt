-- Of the proofs alone: the workers of a round, and what they leave.
use Rattle.std.specs.Prelude.{◌≡◌, ◌<◌, ℕ, Bool, false, List, length, map, None, is_some, not, slice_index_or}
use Rattle.std.specs.List.{zip}
use Rattle.pipe_plan.specs.Plan.{plan}
use Rattle.pipe_plan.specs.Run.{Run}
use Rattle.pipe_global.specs.Shares.{share_of, SharesSeen}
use Rattle.pipe_workers.specs.declared.paused.PausedWorker.{PausedWorker}
use Rattle.pipe_workers.specs.Rounds.{JobSeen}
use Rattle.pipe_workers.specs.Turns.{IsReady}
use Rattle.pipe_workers.specs.Workers.{WorkerSeen}

-- a worker that goes on where it was paused
abbrev pub resumed_worker : PausedWorker → SharesSeen → WorkerSeen
resumed_worker rest shares = record {
  table = rest.table;
  shares = shares;
  turns = rest.turns;
  closed = false;
  stopped = false;
}

-- a job of such a worker
abbrev pub job_of : PausedWorker × SharesSeen → JobSeen
job_of e = record { worker = resumed_worker e.0 e.1; end = None }

-- the jobs of workers, in order
abbrev pub jobs_of : List PausedWorker → List SharesSeen → List JobSeen
jobs_of rests shares = map job_of (zip rests shares)

-- what a worker keeps as it is paused
abbrev pub paused_of : JobSeen → PausedWorker
paused_of j = record {
  table = j.worker.table;
  turns = j.worker.turns;
  picks = j.worker.shares.picks;
}

-- the shares of a job's worker
abbrev pub shares_of : JobSeen → SharesSeen
shares_of j = j.worker.shares

-- whether a worker didn't stop
abbrev pub has_gone_on : JobSeen → Bool
has_gone_on j = not (is_some j.end)

-- paused workers with these shares, in order, have taken their turns before a position
abbrev pub StandReady : Run → ℕ → List PausedWorker → List SharesSeen → Type 0
StandReady r n rests shares =
    (w : ℕ) (d : PausedWorker) (e : SharesSeen) → w < length shares
    → IsReady r w n (resumed_worker (slice_index_or rests w d) (slice_index_or shares w e))

-- each worker's shares count all events of its plans
abbrev pub AreWholeShares : Run → List SharesSeen → Type 0
AreWholeShares r shares =
    (w : ℕ) (d : SharesSeen) → w < length shares
    → (length (slice_index_or shares w d).events ≡ r.limits.partitions)
    × ((p : ℕ) → p < r.limits.partitions
    → share_of (slice_index_or shares w d) p ≡ length (plan r w p))
