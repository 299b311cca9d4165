-- Of the proofs alone: a row that comes to one buffer, and what waits in one that leaves.
use Rattle.std.specs.Prelude.{◌≡◌, ◌<◌, ◌≤◌, ◌+◌, ◌*◌, ℕ, List, Option, Some, None, length}
use Rattle.pipe_columns.specs.declared.data_type.DataType.{DataType}
use Rattle.pipe_spill.specs.declared.spill_row.SpillRow.{SpillRow}
use Rattle.pipe_waiting.specs.Waiting.{AreWaiting, HasPushed, WaitAsBefore, Waiting}
use Rattle.pipe_local.specs.declared.worker_end.WorkerEnd.{WorkerEnd}
use Rattle.pipe_local.specs.declared.worker_end.WorkerEnd.TheVariants as end

-- a row waits behind the others, and there is room for one more
pub record HasStayed (types : List DataType) (size : ℕ) (r : SpillRow) (before after : Waiting)
    : Type 0 where
  pub pushed : HasPushed types r before after
  pub room : before.count + 1 < size

-- a row leaves with those that waited, and the buffer is empty
pub record HasFilled (types : List DataType) (p size : ℕ) (r : SpillRow) (before after : Waiting)
    (q : ℕ) (w : Waiting) : Type 0 where
  pub own : q ≡ p
  pub pushed : HasPushed types r before w
  pub full : before.count + 1 ≡ size
  pub slack : w.room * 4 ≤ length w.bytes * 5
  pub none : after.count ≡ 0
  pub typed : AreWaiting types after

-- a row came to the buffer of a partition
abbrev pub HasCome : List DataType → ℕ → ℕ → SpillRow → Waiting → Waiting → WorkerEnd → Type 0
HasCome types p size r before after end.Done = HasStayed types size r before after
HasCome types p size r before after (end.Payload q w) = HasFilled types p size r before after q w
HasCome types p size r before after end.Memory = WaitAsBefore before after

-- what waited leaves, and the buffer is empty
pub record IsTaken (w before after : Waiting) : Type 0 where
  pub some : 0 < before.count
  pub same : WaitAsBefore before w
  pub slack : w.room * 4 ≤ length w.bytes * 5
  pub none : after.count ≡ 0
  pub typed : (types : List DataType) → AreWaiting types after

-- what waits in a buffer leaves, if anything does
abbrev pub HasLeft : Option Waiting → Waiting → Waiting → Type 0
HasLeft None before after = (before.count ≡ 0) × (after ≡ before)
HasLeft (Some w) before after = IsTaken w before after
