-- Rows that wait and are taken in at the groups of their keys.
use Rattle.std.specs.Prelude.{◌≡◌, ◌<◌, ◌++◌, ℕ, List, [], ◌∷◌, length, map, slice_index_or}
use Rattle.pipe_columns.specs.declared.data_type.DataType.{DataType}
use Rattle.pipe_spill.specs.SpillRow.{AreRows, joined_rows}
use Rattle.pipe_spill.specs.declared.spill_row.SpillRow.{SpillRow}
use Rattle.pipe_groups.specs.Groups.{group_keys, held_at, HasGroups, Seen}
use Rattle.pipe_groups.specs.Holds.{HoldFewer, Holds}
use Rattle.pipe_keyed.specs.Tables.{KeepsShape, Table}
use Rattle.pipe_waiting.specs.Waiting.{payload_read, Waiting}
use Rattle.pipe_tables.specs.Tables.{cover_rows}

-- the rows that wait, joined in order
abbrev pub rows_waiting : List DataType → List Waiting → List SpillRow
rows_waiting types waiting = joined_rows (map (payload_read types) waiting)

-- ---- of the proofs alone: where the groups of rows are

-- each row has a spot, in order, and its key is the one there
abbrev pub AreAt : List (List ℕ) → List SpillRow → List ℕ → Type 0
AreAt keys [] [] = Unit {0}
AreAt keys [] (i ∷ spots) = ⊥
AreAt keys (r ∷ rows) [] = ⊥
AreAt keys (r ∷ rows) (i ∷ spots) =
    (i < length keys) × (slice_index_or keys i [] ≡ r.key) × AreAt keys rows spots

-- groups with room for the keys of some rows more
pub record HasCovered (old new : Seen) : Type 0 where
  pub rows : List SpillRow
  pub groups : HasGroups old new (cover_rows old.shape.prototypes rows old.groups)

-- a table of the same shape and limit, which holds the same
pub record HoldsAs (t new : Table) : Type 0 where
  pub shape : KeepsShape t new
  pub held : (k : List ℕ) → held_at k new.groups ≡ held_at k t.groups

-- ---- and rows that are taken in there

-- a table can take rows at spots: they are of its types, and it holds few enough
pub record CanTakeAt (t : Table) (rows : List SpillRow) (spots : List ℕ) : Type 0 where
  pub typed : AreRows t.shape.key_types t.shape.input_types rows
  pub few : HoldFewer t.shape t.groups (length rows)
  pub at : AreAt (group_keys t.groups) rows spots

-- a table of the same shape, limit and keys, which holds more rows
pub record TookAt (t new : Table) (rows : List SpillRow) : Type 0 where
  pub shape : KeepsShape t new
  pub keys : group_keys new.groups ≡ group_keys t.groups
  pub holds : (held : List SpillRow) → Holds t.shape.prototypes t.groups held
      → Holds t.shape.prototypes new.groups (held ++ rows)

-- of some rows all but these were taken in
pub record HasTakenBut (t now : Table) (all rest : List SpillRow) : Type 0 where
  pub done : List SpillRow
  pub split : all ≡ done ++ rest
  pub took : TookAt t now done
