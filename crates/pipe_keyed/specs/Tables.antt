-- A table of groups by key, as contracts see it.
use Rattle.std.specs.Prelude.{◌≡◌, ◌<◌, ◌+◌, ◌^◌, ℕ, List, length, Option}
use Rattle.std.specs.List.{IsDistinct}
use Rattle.std.specs.Str.{bytes_eq}
use Rattle.pipe_spill.specs.SpillRow.{AreRows}
use Rattle.pipe_spill.specs.declared.spill_row.SpillRow.{SpillRow}
use Rattle.pipe_groups.specs.Groups.{Group, group_keys, put, RowlessAreFresh}
use Rattle.pipe_groups.specs.Holds.{HoldFewer, Holds}
use Rattle.pipe_groups.specs.Shape.{IsShape, Shape}

-- what a table's groups are of, its limit, and the groups; one without rows is room for its key
pub record Table : Type 0 where
  pub shape : Shape
  pub limit : Option ℕ
  pub groups : List Group

-- what every table keeps: each key once, those without rows as they began, and groups that hold
-- fewer than 2^32 rows of the shape
pub record IsTable (t : Table) : Type 0 where
  pub shape : IsShape t.shape
  pub apart : IsDistinct bytes_eq (group_keys t.groups)
  pub fresh : RowlessAreFresh t.shape.prototypes t.groups
  pub rows : HoldFewer t.shape t.groups 0

-- a table with one more row
abbrev pub put_row : Table → SpillRow → List Group
put_row t r = put t.shape.prototypes r.key r.place r.values t.groups

-- a table with these groups, of the same shape and limit
abbrev pub HasGroups : Table → Table → List Group → Type 0
HasGroups old new gs =
    (new.groups ≡ gs) × (new.shape ≡ old.shape) × (new.limit ≡ old.limit)

-- the shape and the limit stay
abbrev pub KeepsShape : Table → Table → Type 0
KeepsShape old new = (new.shape ≡ old.shape) × (new.limit ≡ old.limit)

-- there is room for one more row
abbrev pub TakesOne : Table → Type 0
TakesOne t = HoldFewer t.shape t.groups 1

-- two tables hold rows of their shape that together number fewer than 2^32
pub record HoldFewTogether (t other : Table) : Type 0 where
  pub rows : List SpillRow
  pub others : List SpillRow
  pub holds : Holds t.shape.prototypes t.groups rows
  pub other_holds : Holds t.shape.prototypes other.groups others
  pub typed : AreRows t.shape.key_types t.shape.input_types rows
  pub others_typed : AreRows t.shape.key_types t.shape.input_types others
  pub few : length rows + length others < 2 ^ 32
