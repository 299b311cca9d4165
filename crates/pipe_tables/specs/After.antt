-- A local table after the rows of a worker, which came one by one.
use Rattle.std.specs.Prelude.{◌≡◌, ◌==◌, ◌&&◌, not, ℕ, Bool, List, [], ◌∷◌, ◌++◌, length, map, Option, Some, None, if◌then◌else◌}
use Rattle.std.specs.List.{filter, list_any, range_with_len}
use Rattle.std.specs.Set.{is_member}
use Rattle.pipe_columns.specs.declared.data_type.DataType.{DataType}
use Rattle.pipe_columns.specs.Key.{partition}
use Rattle.pipe_columns.specs.Row.{Row}
use Rattle.pipe_plan.specs.declared.limits.Limits.{Limits}
use Rattle.pipe_plan.specs.Kept.{kept_keys, same_key}
use Rattle.pipe_plan.specs.Payloads.{full_pieces, rest_of}
use Rattle.pipe_spill.specs.SpillRow.{spilled}
use Rattle.pipe_spill.specs.declared.spill_row.SpillRow.{SpillRow}
use Rattle.pipe_groups.specs.Groups.{count_held, RowlessAreFresh}
use Rattle.pipe_groups.specs.Holds.{Holds}
use Rattle.pipe_groups.specs.Shape.{Shape}
use Rattle.pipe_tables.specs.LocalTable.{let_go, Local, local_with_row}

-- ---- which rows are kept and which are sent

-- whether the key of a row is among those that are kept of some rows
abbrev pub is_kept_of : Limits → List Row → Row → Bool
is_kept_of l rows x = is_member same_key (kept_keys l rows) x.key

-- which of some rows are kept, in order
abbrev pub kept_of : Limits → List Row → List Row
kept_of l rows = filter (λ x. is_kept_of l rows x) rows

-- whether a row of some goes to a partition: its key lies there, and isn't kept
abbrev pub goes_to : Limits → List DataType → List Row → ℕ → Row → Bool
goes_to l types rows p x =
    (partition l.partitions types x.key == p) && not (is_kept_of l rows x)

-- what is spilled of some rows to a partition, in order
abbrev pub spilled_to : Limits → List DataType → ℕ → List Row → List SpillRow
spilled_to l types p rows = map (spilled types) (filter (goes_to l types rows p) rows)

-- what waits of it
abbrev pub waiting_of : Limits → List DataType → List Row → ℕ → List SpillRow
waiting_of l types rows p = rest_of l.buffer_size (spilled_to l types p rows)

-- the pieces of it that have left
abbrev pub left_of : Limits → List DataType → List Row → ℕ → List (List SpillRow)
left_of l types rows p = full_pieces l.buffer_size (spilled_to l types p rows)

-- ---- the local table

-- it holds the rows that are kept of those taken, and the others wait or have left
pub record IsAfter (l : Limits) (s : Shape) (taken : List Row) (t : Local) : Type 0 where
  pub shape : t.table.shape ≡ s
  pub limit : t.table.limit ≡ Some l.spill_size
  pub size : t.buffers.size ≡ l.buffer_size
  pub holds : Holds s.prototypes t.table.groups (map (spilled s.key_types) (kept_of l taken))
  pub counted : count_held t.table.groups ≡ length (kept_keys l taken)
  pub fresh : RowlessAreFresh s.prototypes t.table.groups
  pub waits : t.buffers.rows
      ≡ map (waiting_of l s.key_types taken) (range_with_len 0 l.partitions)
  pub overflowed : t.overflowed ≡ list_any (λ x. not (is_kept_of l taken x)) taken

-- the piece of a partition that leaves, if one does and is its own
abbrev pub piece_for : ℕ → Option (ℕ × List SpillRow) → List (List SpillRow)
piece_for p None = []
piece_for p (Some left) = if left.0 == p then left.1 ∷ [] else []

-- a local table with rows that come one by one
abbrev pub with_all : List SpillRow → Local → Local
with_all [] t = t
with_all (r ∷ rows) t = with_all rows (local_with_row r t)

-- the pieces of a partition that leave meanwhile
abbrev pub pieces_for : ℕ → List SpillRow → Local → List (List SpillRow)
pieces_for p [] t = []
pieces_for p (r ∷ rows) t = piece_for p (let_go r t) ++ pieces_for p rows (local_with_row r t)
