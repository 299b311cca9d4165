-- Where a worker stands in its turns, and how it ends.
use Rattle.std.specs.Prelude.{◌≡◌, ◌<◌, ◌≤◌, ℕ, true, false, List, length, replicate}
use Rattle.pipe_plan.specs.Plan.{events_before, picks_before, plan, turns_before}
use Rattle.pipe_plan.specs.Progress.{rows_before}
use Rattle.pipe_plan.specs.Run.{Run}
use Rattle.pipe_plan.specs.Whole.{kept_rows}
use Rattle.pipe_groups.specs.Holds.{Holds}
use Rattle.pipe_groups.specs.Shape.{shape_of}
use Rattle.pipe_tables.specs.After.{IsAfter}
use Rattle.pipe_tables.specs.LocalTable.{Local, NoneWaits}
use Rattle.pipe_global.specs.Partition.{spilled_all}
use Rattle.pipe_global.specs.Shares.{one_more_at, share_of, SharesSeen}
use Rattle.pipe_workers.specs.Workers.{WorkerSeen}
use Rattle.pipe_workers.specs.declared.stop.WorkerStop.{WorkerStop}
use Rattle.pipe_workers.specs.declared.stop.WorkerStop.TheVariants as stop

-- no put was refused, in so many partitions
abbrev pub no_faults : ℕ → List ℕ
no_faults partitions = replicate partitions 0

-- the shares of worker w after its turns before position n
pub record AreSharesBefore (r : Run) (w n : ℕ) (s : SharesSeen) : Type 0 where
  pub worker : s.worker ≡ w
  pub picks : s.picks ≡ picks_before r w n
  pub events :
      (p : ℕ) → p < r.limits.partitions → share_of s p ≡ length (events_before r w p n)
  pub faults : s.faults ≡ no_faults r.limits.partitions

-- worker w has taken its turns before position n: its local table is one after their rows, and its
-- shares count their events
pub record IsAfterTurns (r : Run) (w n : ℕ) (t : Local) (s : SharesSeen) : Type 0 where
  pub table : IsAfter r.limits (shape_of r.query) (rows_before r w n) t
  pub shares : AreSharesBefore r w n s

-- worker w is at work, and has taken its turns before position n
pub record IsReady (r : Run) (w n : ℕ) (s : WorkerSeen) : Type 0 where
  pub after : IsAfterTurns r w n s.table s.shares
  pub turns : s.turns ≡ length (turns_before r w n)
  pub at_work : s.closed ≡ false
  pub unstopped : s.stopped ≡ false

-- the shares of worker w count all events of its plans, and no put was refused
pub record IsWholeFor (r : Run) (w : ℕ) (s : SharesSeen) : Type 0 where
  pub worker : s.worker ≡ w
  pub events : (p : ℕ) → p < r.limits.partitions → share_of s p ≡ length (plan r w p)
  pub faults : s.faults ≡ no_faults r.limits.partitions

-- worker w has closed: its plans are whole, its table holds the rows that it keeps, and none waits
pub record HasClosed (r : Run) (w : ℕ) (s : WorkerSeen) : Type 0 where
  pub shares : IsWholeFor r w s.shares
  pub shape : s.table.table.shape ≡ shape_of r.query
  pub holds :
      Holds (shape_of r.query).prototypes s.table.table.groups
      (spilled_all r.query (kept_rows r w))
  pub none_waits : NoneWaits s.table
  pub closed : s.closed ≡ true
  pub unstopped : s.stopped ≡ false

-- the shares of worker w count the events of fronts of its plans
pub record AreFronts (r : Run) (w : ℕ) (s : SharesSeen) : Type 0 where
  pub worker : s.worker ≡ w
  pub events : (p : ℕ) → p < r.limits.partitions → share_of s p ≤ length (plan r w p)

-- the refused puts once a worker has stopped: one more where a store refused it
abbrev pub refused_after : WorkerStop → List ℕ → List ℕ
refused_after (stop.Store p) faults = one_more_at faults p
refused_after stop.Memory faults = faults

-- a partition that a worker stopped at is one of the run
abbrev pub IsPartition : Run → WorkerStop → Type 0
IsPartition r (stop.Store p) = p < r.limits.partitions
IsPartition r stop.Memory = 0 < r.limits.partitions

-- the shares of worker w where it stopped: they count fronts of its plans, and one put was refused
-- or none
pub record AreSharesAtStop (r : Run) (w : ℕ) (end : WorkerStop) (s : SharesSeen) : Type 0 where
  pub fronts : AreFronts r w s
  pub faults : s.faults ≡ refused_after end (no_faults r.limits.partitions)
  pub partition : IsPartition r end

-- worker w has stopped
pub record HasStopped (r : Run) (w : ℕ) (end : WorkerStop) (s : WorkerSeen) : Type 0 where
  pub shares : AreSharesAtStop r w end s.shares
  pub stopped : s.stopped ≡ true
