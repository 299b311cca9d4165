-- Of the proofs alone: rows that are moved into a table which has room for their keys.
use Rattle.std.specs.Prelude.{◌≡◌, ℕ, true, List, ◌++◌, All, length, None}
use Rattle.pipe_spill.specs.SpillRow.{AreRows}
use Rattle.pipe_spill.specs.declared.spill_row.SpillRow.{SpillRow}
use Rattle.pipe_groups.specs.Groups.{Group, is_covered}
use Rattle.pipe_groups.specs.Holds.{HoldFewer, Holds}
use Rattle.pipe_keyed.specs.Tables.{KeepsShape, Table}

-- a table of the same shape and limit, which holds more rows
pub record TookRows (t new : Table) (rows : List SpillRow) : Type 0 where
  pub shape : KeepsShape t new
  pub holds :
      (held : List SpillRow) → Holds t.shape.prototypes t.groups held
      → Holds t.shape.prototypes new.groups (held ++ rows)

-- there is room for the key of each row
abbrev pub AreCovered : List Group → List SpillRow → Type 0
AreCovered gs rows = All (λ r. is_covered r.key gs ≡ true) rows

-- no room for a key is lost
abbrev pub KeepsCovered : List Group → List Group → Type 0
KeepsCovered gs new = (k : List ℕ) → is_covered k gs ≡ true → is_covered k new ≡ true

-- a table without limit can take rows once there is room for their keys: they are of its types, and
-- it holds few enough
pub record CanMerge (t : Table) (rows : List SpillRow) : Type 0 where
  pub limit : t.limit ≡ None
  pub typed : AreRows t.shape.key_types t.shape.input_types rows
  pub few : HoldFewer t.shape t.groups (length rows)

-- a table without limit can take rows: they are of its types, it holds few enough, and there is room
-- for their keys
pub record CanTake (t : Table) (rows : List SpillRow) : Type 0 where
  pub limit : t.limit ≡ None
  pub typed : AreRows t.shape.key_types t.shape.input_types rows
  pub few : HoldFewer t.shape t.groups (length rows)
  pub covered : AreCovered t.groups rows

-- of some rows all but these were moved in
pub record HasMoved (t now : Table) (all rest : List SpillRow) : Type 0 where
  pub done : List SpillRow
  pub split : all ≡ done ++ rest
  pub taken : TookRows t now done
  pub covered : KeepsCovered t.groups now.groups
