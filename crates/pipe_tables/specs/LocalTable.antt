-- The local table of a worker: what is held, and what waits or leaves.
use Rattle.std.specs.Prelude.{◌≡◌, ◌+◌, ◌≤◌, ◌||◌, ℕ, Bool, true, not, List, [], Option, None, Some, All, if◌then◌else◌, ⊤}
use Rattle.pipe_spill.specs.declared.spill_row.SpillRow.{SpillRow}
use Rattle.pipe_groups.specs.Groups.{count_held, Group, is_held}
use Rattle.pipe_tables.specs.Buffers.{buffered, Buffers, leaving}
use Rattle.pipe_keyed.specs.Tables.{put_row, Table}
use Rattle.pipe_tables.specs.Tables.{is_full}

-- what is held, the rows that wait in buffers, and whether a row ever overflowed
pub record Local : Type 0 where
  pub table : Table
  pub buffers : Buffers
  pub overflowed : Bool

-- ---- a row comes

-- whether it is held: its key is, or there is room for a new one
abbrev pub keeps : SpillRow → Local → Bool
keeps r t = is_held r.key t.table.groups || not (is_full t.table)

-- a table with other groups
abbrev pub with_groups : List Group → Table → Table
with_groups gs t = record { shape = t.shape; limit = t.limit; groups = gs }

-- the local table where the row is held
abbrev pub holding : SpillRow → Local → Local
holding r t = record {
  table = with_groups (put_row t.table r) t.table;
  buffers = t.buffers;
  overflowed = t.overflowed;
}

-- and where it overflows
abbrev pub overflowing : SpillRow → Local → Local
overflowing r t = record { table = t.table; buffers = buffered r t.buffers; overflowed = true }

-- the local table with one more row
abbrev pub local_with_row : SpillRow → Local → Local
local_with_row r t = if keeps r t then holding r t else overflowing r t

-- what leaves as the row comes: the rows of its partition, where it overflows and fills the buffer
abbrev pub let_go : SpillRow → Local → Option (ℕ × List SpillRow)
let_go r t = if keeps r t then None else leaving r t.buffers

-- ---- many

-- at most one key more is held than the limit
abbrev pub HoldsToLimit : ℕ → Option ℕ → Type 0
HoldsToLimit held None = ⊤
HoldsToLimit held (Some limit) = held ≤ limit + 1

-- at most one key more is held than the limit
abbrev pub IsToLimit : Table → Type 0
IsToLimit t = HoldsToLimit (count_held t.groups) t.limit

-- no row waits
abbrev pub NoneWaits : Local → Type 0
NoneWaits t = All (λ rows. rows ≡ []) t.buffers.rows

-- a local table with other buffers
abbrev pub with_buffers : Buffers → Local → Local
with_buffers b t = record { table = t.table; buffers = b; overflowed = t.overflowed }
