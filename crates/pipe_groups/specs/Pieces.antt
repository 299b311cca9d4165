-- Groups that are given piece by piece.
use Rattle.std.specs.Prelude.{List}
use Rattle.pipe_groups.specs.Groups.{Group}
use Rattle.pipe_groups.specs.Shape.{Shape}

-- what groups are of, and those that are left to give, in turn
pub record PiecesSeen : Type 0 where
  pub shape : Shape
  pub left : List Group
