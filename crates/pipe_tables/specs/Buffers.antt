-- Rows that wait in buffers, one for each partition.
use Rattle.std.specs.Prelude.{◌<◌, ◌%◌, ◌==◌, ℕ, Bool, true, false, List, [], ◌∷◌, ◌++◌, All, filter, length, nat_lt, replicate, slice_index_or, slice_set, Option, Some, None, if◌then◌else◌}
use Rattle.std.specs.List.{enumerate_from}
use Rattle.pipe_columns.specs.Key.{fold_bytes}
use Rattle.pipe_spill.specs.SpillRow.{Payload}
use Rattle.pipe_spill.specs.declared.spill_row.SpillRow.{SpillRow}
use Rattle.pipe_tables.specs.declared.local_end.LocalEnd.{LocalEnd}
use Rattle.pipe_tables.specs.declared.local_end.LocalEnd.TheVariants as end
use Rattle.pipe_tables.specs.declared.local_end.LentLocalEnd.{LentLocalEnd}
use Rattle.pipe_tables.specs.declared.local_end.LentLocalEnd.TheVariants as lent

-- the size at which a buffer leaves, and the rows that wait in each
pub record Buffers : Type 0 where
  pub size : ℕ
  pub rows : List (List SpillRow)

-- there is a buffer, and each is shorter than the size
pub record AreBuffers (b : Buffers) : Type 0 where
  pub some : 0 < length b.rows
  pub short : All (λ rows. length rows < b.size) b.rows

-- so many buffers in which nothing waits
abbrev pub no_rows : ℕ → List (List SpillRow)
no_rows partitions = replicate partitions []

-- the rows that wait in a partition
abbrev pub waiting_in : ℕ → Buffers → List SpillRow
waiting_in p b = slice_index_or b.rows p []

-- the partition of a key, out of as many as there are buffers
abbrev pub buffer_of : List ℕ → Buffers → ℕ
buffer_of key b = fold_bytes key % length b.rows

-- the rows that wait in a row's partition, with the row behind them
abbrev pub rows_with : SpillRow → Buffers → List SpillRow
rows_with r b = waiting_in (buffer_of r.key b) b ++ r ∷ []

-- whether a row fills its buffer
abbrev pub fills : SpillRow → Buffers → Bool
fills r b = length (rows_with r b) == b.size

-- buffers where other rows wait in a partition
abbrev pub with_rows : ℕ → List SpillRow → Buffers → Buffers
with_rows p rows b = record { size = b.size; rows = slice_set b.rows p rows }

-- buffers with one more row: one that is filled is emptied
abbrev pub buffered : SpillRow → Buffers → Buffers
buffered r b = with_rows (buffer_of r.key b) (if fills r b then [] else rows_with r b) b

-- what leaves as a row comes: the rows of its partition, where it fills the buffer
abbrev pub leaving : SpillRow → Buffers → Option (ℕ × List SpillRow)
leaving r b = if fills r b then Some (buffer_of r.key b, rows_with r b) else None

-- the partition and the rows that an insert gives
abbrev pub left_by : LocalEnd → Option (ℕ × List SpillRow)
left_by end.Done = None
left_by (end.Payload p payload) = Some (p, payload.rows)
left_by (end.Memory r) = None

-- whether an insert took its row in
abbrev pub is_taken : LocalEnd → Bool
is_taken end.Done = true
is_taken (end.Payload p payload) = true
is_taken (end.Memory r) = false

-- the same of an insert of a row that is lent
abbrev pub left_by_lent : LentLocalEnd → Option (ℕ × List SpillRow)
left_by_lent lent.Done = None
left_by_lent (lent.Payload p payload) = Some (p, payload.rows)
left_by_lent lent.Memory = None

-- whether an insert took the row that is lent in
abbrev pub is_taken_lent : LentLocalEnd → Bool
is_taken_lent lent.Done = true
is_taken_lent (lent.Payload p payload) = true
is_taken_lent lent.Memory = false

-- ---- what waits

-- whether rows wait in a partition
abbrev pub waits : ℕ × List SpillRow → Bool
waits e = nat_lt 0 (length e.1)

-- the partitions in which rows wait, each with its rows, in order
abbrev pub rests : Buffers → List (ℕ × List SpillRow)
rests b = filter waits (enumerate_from 0 b.rows)

-- a partition and the rows of a payload
abbrev pub rows_left : ℕ × Payload → ℕ × List SpillRow
rows_left e = (e.0, e.1.rows)

-- buffers in which nothing waits
abbrev pub with_none : Buffers → Buffers
with_none b = record { size = b.size; rows = no_rows (length b.rows) }
