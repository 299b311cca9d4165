-- Of the proofs alone: groups that are given piece by piece, in the order of indexes.
use Rattle.std.specs.Prelude.{◌<◌, ◌≤◌, List, drop, length, map, nat_eq}
use Rattle.std.specs.List.{All, IsDistinct}
use Rattle.pipe_groups.specs.declared.pieces.GroupPieces.TheInside.{Inside}
use Rattle.pipe_groups.specs.Given.{CanGive}
use Rattle.pipe_groups.specs.Groups.{Group, group_of}
use Rattle.pipe_groups.specs.Pieces.{PiecesSeen}
use Rattle.pipe_groups.specs.Shape.{IsShape}

-- those that are left
abbrev pub left_in : Inside → List Group
left_in a = map (group_of a.groups.groups) (drop a.next a.order.items)

-- the pieces as contracts see them
abbrev pub seen_in : Inside → PiecesSeen
seen_in a = record { shape = a.groups.shape; left = left_in a }

-- the order tells of groups that are there, each once, and those that are left can give rows
pub record ArePieces (a : Inside) : Type 0 where
  pub shape : IsShape a.groups.shape
  pub within : All (λ i. i < length a.groups.groups) a.order.items
  pub once : IsDistinct nat_eq a.order.items
  pub gives : All (CanGive a.groups.shape) (left_in a)
  pub next : a.next ≤ length a.order.items
