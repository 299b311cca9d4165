-- Of the proofs alone: a row that comes to buffers, and what waits in one of them that leaves.
use Rattle.std.specs.Prelude.{◌≡◌, ◌↔◌, ℕ, true, List, [], Option, IfSome, IsNone}
use Rattle.pipe_columns.specs.declared.data_type.DataType.{DataType}
use Rattle.pipe_spill.specs.declared.spill_row.SpillRow.{SpillRow}
use Rattle.pipe_tables.specs.Buffers.{buffered, leaving, waiting_in, with_rows}
use Rattle.pipe_waiting.specs.Waiting.{Waiting, waiting_rows}
use Rattle.pipe_local.specs.WaitingBuffers.{AreHeld, buffers_read, IsPacked, WaitingBuffers}
use Rattle.pipe_local.specs.WorkerEnds.{GivesPacked, is_taken_by_worker, left_by_worker}
use Rattle.pipe_local.specs.declared.worker_end.WorkerEnd.{WorkerEnd}
use Rattle.pipe_local.specs.declared.worker_end.WorkerEnd.TheVariants as end

-- buffers stay, as the rows that their bytes are
pub record StayAsRead (types : List DataType) (before after : WaitingBuffers) : Type 0 where
  pub same : buffers_read types after ≡ buffers_read types before
  pub held : AreHeld types after

-- a row comes to buffers: it waits, or leaves with those before it, or all is as before
pub record HasPut (types : List DataType) (r : SpillRow) (before after : WaitingBuffers)
    (e : WorkerEnd) : Type 0 where
  pub taken : is_taken_by_worker e ≡ true
      → buffers_read types after ≡ buffered r (buffers_read types before)
  pub payload : is_taken_by_worker e ≡ true
      → left_by_worker types e ≡ leaving r (buffers_read types before)
  pub memory : e ≡ end.Memory → buffers_read types after ≡ buffers_read types before
  pub packed : GivesPacked types e
  pub held : AreHeld types after

-- what waits in a partition leaves, if anything does
pub record HasGivenRest (types : List DataType) (p : ℕ) (left : Option Waiting)
    (before after : WaitingBuffers) : Type 0 where
  pub none : IsNone left ↔ (waiting_in p (buffers_read types before) ≡ [])
  pub rows : IfSome left (λ w. waiting_rows types w ≡ waiting_in p (buffers_read types before))
  pub packed : IfSome left (IsPacked types)
  pub emptied : buffers_read types after ≡ with_rows p [] (buffers_read types before)
  pub held : AreHeld types after
