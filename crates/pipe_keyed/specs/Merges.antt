-- Groups that are taken into others.
use Rattle.std.specs.Prelude.{◌≡◌, ◌+◌, ◌<◌, ◌^◌, ℕ, List, length, slice_set}
use Rattle.std.specs.List.{IsDistinct}
use Rattle.std.specs.Str.{bytes_eq}
use Rattle.pipe_running.specs.declared.function.AggregateFunction.{AggregateFunction}
use Rattle.pipe_spill.specs.declared.spill_row.SpillRow.{SpillRow}
use Rattle.pipe_groups.specs.Groups.{AreJoinable, cover, Group, group_of, group_keys, RowlessAreFresh, Seen, with_group}
use Rattle.pipe_groups.specs.Holds.{Holds}
use Rattle.pipe_keyed.specs.Keyed.{IsAt}

-- the group of its key, or a new one, may be joined with another group
abbrev pub MayTake : List AggregateFunction → List Group → Group → Type 0
MayTake prototypes gs o = (i : ℕ) → IsAt (cover prototypes o.key gs) o.key i
    → AreJoinable (group_of (cover prototypes o.key gs) i).states o.states

-- another group is taken into the group of its key, or into a new one
pub record IsTakenInto (prototypes : List AggregateFunction) (gs : List Group) (o : Group)
    (new : List Group) : Type 0 where
  pub index : ℕ
  pub at : IsAt (cover prototypes o.key gs) o.key index
  pub is : new ≡ slice_set (cover prototypes o.key gs) index
      (with_group o (group_of (cover prototypes o.key gs) index))

-- groups of one shape, with keys apart, that hold rows which together number fewer than 2^32
pub record MayMerge (own other : Seen) : Type 0 where
  pub shape : other.shape ≡ own.shape
  pub apart : IsDistinct bytes_eq (group_keys own.groups)
  pub fresh : RowlessAreFresh own.shape.prototypes own.groups
  pub other_apart : IsDistinct bytes_eq (group_keys other.groups)
  pub other_fresh : RowlessAreFresh own.shape.prototypes other.groups
  pub rows : List SpillRow
  pub others : List SpillRow
  pub holds : Holds own.shape.prototypes own.groups rows
  pub other_holds : Holds own.shape.prototypes other.groups others
  pub few : length rows + length others < 2 ^ 32
