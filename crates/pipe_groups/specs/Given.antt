-- What groups give: a frame of their keys and aggregates, in the order of their keys.
use Rattle.std.specs.Prelude.{◌≡◌, ◌-◌, ℕ, List, ◌++◌, map, Option, Some, None, unwrap_or}
use Rattle.std.specs.List.{AllZip, flat_map}
use Rattle.std.specs.declared.cmp.Ordering.{Ordering}
use Rattle.std.specs.Ordering.{nat_cmp}
use Rattle.std.specs.Cmp.Lexicographic.{slice_cmp}
use Rattle.pipe_columns.specs.declared.any_value.AnyValue.{AnyValue}
use Rattle.pipe_columns.specs.Frame.{frame_of, FrameData}
use Rattle.pipe_columns.specs.Groups.{sorted_keys}
use Rattle.pipe_columns.specs.Key.{code}
use Rattle.pipe_running.specs.GroupStates.{given_all, SameKinds}
use Rattle.pipe_running.specs.Stands.{FitTypes, given_types}
use Rattle.pipe_spill.specs.KeyTypes.{IsTuple}
use Rattle.pipe_spill.specs.SpillRow.{IsKey}
use Rattle.pipe_groups.specs.Groups.{Group, held_at, held_groups, group_keys, no_group}
use Rattle.pipe_groups.specs.Shape.{Shape}

-- the order of key bytes
abbrev pub key_cmp : List ℕ → List ℕ → Ordering
key_cmp a b = slice_cmp nat_cmp a b

-- the groups that hold rows, in the order of their keys
abbrev pub in_order : List Group → List Group
in_order gs =
    map (λ k. unwrap_or (held_at k gs) no_group) (sorted_keys key_cmp (group_keys (held_groups gs)))

-- a group can give a row: its key is the code of a tuple of the key types, its running aggregates are
-- of the prototypes' kinds, and what they give fits the types of their columns
pub record CanGive (s : Shape) (g : Group) : Type 0 where
  pub key : IsKey s.key_types g.key
  pub kinds : SameKinds s.prototypes g.states
  pub fits : FitTypes (given_all g.states) (flat_map given_types s.prototypes)

-- a row is a group's: the tuple whose code is its key, then what its running aggregates give
pub record IsRowOfGroup (s : Shape) (g : Group) (row : List AnyValue) : Type 0 where
  pub key : List AnyValue
  pub tuple : IsTuple s.key_types key
  pub code_is : code s.key_types key ≡ g.key
  pub row_is : row ≡ key ++ given_all g.states

-- a frame of the output columns has a row for each group, in order
pub record IsFrameOfGroups (s : Shape) (gs : List Group) (f : FrameData) : Type 0 where
  pub rows : List (List AnyValue)
  pub each : AllZip (λ g row. IsRowOfGroup s g row) gs rows
  pub frame_is : f ≡ frame_of s.fields rows

-- what is left of a slice behind so many groups: as many fewer to drop and to keep as were dropped
-- and kept
abbrev pub slice_after : ℕ → Option (ℕ × ℕ) → Option (ℕ × ℕ)
slice_after n None = None
slice_after n (Some s) = Some (s.0 - n, s.1 - (n - s.0))
