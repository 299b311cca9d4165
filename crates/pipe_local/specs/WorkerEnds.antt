-- What a row that comes to the table of a worker leaves.
use Rattle.std.specs.Prelude.{ℕ, Bool, true, false, List, Option, Some, None, ⊤}
use Rattle.pipe_columns.specs.declared.data_type.DataType.{DataType}
use Rattle.pipe_spill.specs.declared.spill_row.SpillRow.{SpillRow}
use Rattle.pipe_waiting.specs.Waiting.{waiting_rows}
use Rattle.pipe_local.specs.WaitingBuffers.{IsPacked}
use Rattle.pipe_local.specs.declared.worker_end.WorkerEnd.{WorkerEnd}
use Rattle.pipe_local.specs.declared.worker_end.WorkerEnd.TheVariants as end

-- the partition and the rows that an insert gives, whose inputs have these types
abbrev pub left_by_worker : List DataType → WorkerEnd → Option (ℕ × List SpillRow)
left_by_worker types end.Done = None
left_by_worker types (end.Payload p w) = Some (p, waiting_rows types w)
left_by_worker types end.Memory = None

-- whether an insert took its row in
abbrev pub is_taken_by_worker : WorkerEnd → Bool
is_taken_by_worker end.Done = true
is_taken_by_worker (end.Payload p w) = true
is_taken_by_worker end.Memory = false

-- what an insert gives, if anything, is bytes of rows and little more
abbrev pub GivesPacked : List DataType → WorkerEnd → Type 0
GivesPacked types end.Done = ⊤
GivesPacked types (end.Payload p w) = IsPacked types w
GivesPacked types end.Memory = ⊤
