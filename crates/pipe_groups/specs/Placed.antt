-- Rows of a frame, and groups, in the order of places.
use Rattle.std.specs.Prelude.{◌≡◌, ◌+◌, ◌%◌, ℕ, List, [], ◌∷◌, map, Option, Some, unwrap_or}
use Rattle.std.specs.List.{IsDistinct, position}
use Rattle.std.specs.Ordering.{eq_by_cmp}
use Rattle.pipe_columns.specs.declared.any_value.AnyValue.{AnyValue}
use Rattle.pipe_columns.specs.declared.place.Place.{Place}
use Rattle.pipe_columns.specs.Frame.{FrameData, row_at}
use Rattle.pipe_columns.specs.Groups.{sorted_keys}
use Rattle.pipe_columns.specs.Key.{fold_bytes}
use Rattle.pipe_columns.specs.Place.{place_cmp}
use Rattle.pipe_columns.specs.Slice.{sliced}
use Rattle.pipe_groups.specs.Given.{in_order, IsFrameOfGroups}
use Rattle.pipe_groups.specs.Groups.{Group, group_of, group_keys}
use Rattle.pipe_groups.specs.Shape.{Shape}

-- the row of a frame at the position that a place has in a list
abbrev pub row_with : List Place → FrameData → Place → List AnyValue
row_with places f p = row_at f.columns (unwrap_or (position (eq_by_cmp place_cmp p) places) 0)

-- the rows of a frame, one for each place of a list, in the order of the places
abbrev pub rows_by_place : List Place → FrameData → List (List AnyValue)
rows_by_place places f = map (row_with places f) (sorted_keys place_cmp places)

-- the group at the position that a place has in a list
abbrev pub group_with : List Place → List Group → Place → Group
group_with places gs p = group_of gs (unwrap_or (position (eq_by_cmp place_cmp p) places) 0)

-- groups, one for each place of a list, in the order of the places
abbrev pub groups_by_place : List Place → List Group → List Group
groups_by_place places gs = map (group_with places gs) (sorted_keys place_cmp places)

-- places that tell the partitions of keys, out of so many, and the keys' numbers, from one on
abbrev pub key_places : ℕ → ℕ → List (List ℕ) → List Place
key_places n i [] = []
key_places n i (k ∷ ks) = record { chunk = fold_bytes k % n; row = i } ∷ key_places n (i + 1) ks

-- the groups that hold rows, partition by partition and by key in each
abbrev pub in_order_of_parts : ℕ → List Group → List Group
in_order_of_parts n gs =
    groups_by_place (key_places n 0 (group_keys (in_order gs))) (in_order gs)

-- the least places of the rows of groups, in the order of their keys
abbrev pub AreFirsts : List Group → List Place → Type 0
AreFirsts gs firsts = map Some firsts ≡ map (λ g. g.first) (in_order gs)

-- no two groups have the same least place
abbrev pub HaveFirstsApart : List Group → Type 0
HaveFirstsApart gs =
    (firsts : List Place) → AreFirsts gs firsts → IsDistinct (eq_by_cmp place_cmp) firsts

-- a frame has a row for each group that a slice keeps, in the order of their least places
pub record IsFrameByRow (s : Shape) (gs : List Group) (slice : Option (ℕ × ℕ)) (f : FrameData)
    : Type 0 where
  pub firsts : List Place
  pub firsts_are : AreFirsts gs firsts
  pub frame_is : IsFrameOfGroups s (sliced slice (groups_by_place firsts (in_order gs))) f
