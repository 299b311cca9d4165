-- Buffers in which rows wait as bytes, one for each partition.
use Rattle.std.specs.Prelude.{◌≤◌, ◌*◌, ℕ, List, All, length, map}
use Rattle.pipe_columns.specs.declared.data_type.DataType.{DataType}
use Rattle.pipe_tables.specs.Buffers.{AreBuffers, Buffers}
use Rattle.pipe_waiting.specs.Waiting.{AreWaiting, Waiting, waiting_rows}

-- the size at which a buffer leaves, and what waits in each
pub record WaitingBuffers : Type 0 where
  pub size : ℕ
  pub waiting : List Waiting

-- the rows that the bytes are, whose inputs have these types
abbrev pub buffers_read : List DataType → WaitingBuffers → Buffers
buffers_read types b = record { size = b.size; rows = map (waiting_rows types) b.waiting }

-- what waits is bytes of rows, there is a buffer, and each is shorter than the size
pub record AreHeld (types : List DataType) (b : WaitingBuffers) : Type 0 where
  pub typed : All (AreWaiting types) b.waiting
  pub short : AreBuffers (buffers_read types b)

-- what leaves: bytes of rows, which take at most a quarter more memory than they need
pub record IsPacked (types : List DataType) (w : Waiting) : Type 0 where
  pub typed : AreWaiting types w
  pub slack : w.room * 4 ≤ length w.bytes * 5
