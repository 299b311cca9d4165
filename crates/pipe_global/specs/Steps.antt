-- Of the proofs alone: what a partition is after an event.
use Rattle.std.specs.Prelude.{◌≡◌, ◌+◌, ℕ, Bool, nat_lt, List, [], ◌∷◌, ◌++◌, length, if◌then◌else◌}
use Rattle.pipe_plan.specs.declared.event.PartitionEvent.{PartitionEvent}
use Rattle.pipe_plan.specs.declared.event.PartitionEvent.TheVariants as event
use Rattle.pipe_plan.specs.Replay.{worker_of}
use Rattle.pipe_plan.specs.Run.{StoreSeen}
use Rattle.pipe_spill.specs.FrameBytes.{frame_bytes}
use Rattle.pipe_spill.specs.SpillRow.{joined_rows, Payload}
use Rattle.pipe_spill.specs.Store.{with_frame}
use Rattle.pipe_global.specs.declared.mark.Mark.{Mark}
use Rattle.pipe_global.specs.Moving.{TookRows}
use Rattle.pipe_global.specs.Partition.{PartitionSeen}
use Rattle.pipe_global.specs.Shares.{one_more_at}

-- a partition with one more event
abbrev pub with_event : PartitionSeen → PartitionEvent → PartitionSeen
with_event s e =
    record s { journal = s.journal ++ e ∷ []; book = one_more_at s.book (worker_of e) }

-- where a worker's payload has come to wait
abbrev pub with_payload : PartitionSeen → ℕ → Payload → PartitionSeen
with_payload s w payload = record (with_event s (event.Arrive w)) {
  waiting = s.waiting ++ payload ∷ [];
  arrived = s.arrived + length payload.rows;
}

-- where a worker has merged what waited
pub record IsMerged (s : PartitionSeen) (w : ℕ) (new : PartitionSeen) : Type 0 where
  pub taken : TookRows s.table new.table (joined_rows s.waiting)
  pub others :
      new ≡ record (with_event s (event.Merge w)) { table = new.table; waiting = [] }

-- a store with one more frame, where so many payloads wait
pub record HasFrame (puts : Bool) (s new : StoreSeen) (frame : List ℕ) : Type 0 where
  pub told : new.told ≡ (if puts then with_frame s.told frame else s.told)
  pub held : new.held ≡ (if puts then s.held + 1 else s.held)
  pub sure : new.sure ≡ s.sure
  pub path : new.path ≡ s.path
  pub faults : new.faults ≡ s.faults

-- whether a dump puts a frame
abbrev pub puts : ℕ → List Payload → Bool
puts limit waiting = nat_lt limit (length waiting)

-- the mark of the next frame
abbrev pub next_mark : StoreSeen → List Payload → Mark
next_mark store waiting =
    record { number = store.held; rows = length (joined_rows waiting) }

-- where a worker has dumped what waited
pub record IsDumped (limit : ℕ) (s : PartitionSeen) (w : ℕ) (new : PartitionSeen) : Type 0 where
  pub store :
      HasFrame (puts limit s.waiting) s.store new.store
      (frame_bytes s.table.shape.input_types (joined_rows s.waiting))
  pub others :
      new ≡ record (with_event s (event.Dump w)) {
        store = new.store;
        waiting = if puts limit s.waiting then [] else s.waiting;
        marks = if puts limit s.waiting then s.marks ++ next_mark s.store s.waiting ∷ [] else s.marks;
      }
