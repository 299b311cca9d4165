-- Groups in another order.
use Rattle.std.specs.Prelude.{◌≡◌, ℕ, List, map}
use Rattle.std.specs.List.{All}
use Rattle.std.specs.List.Sorted.{IsPermutation, IsSortedByKey, IsStableByKey}
use Rattle.std.specs.declared.cmp.Ordering.{Ordering}
use Rattle.pipe_columns.specs.declared.data_type.DataType.{DataType}
use Rattle.pipe_columns.specs.Key.{partition}
use Rattle.test_plain.specs.declared.groups.Group.{Group}
use Rattle.test_plain.specs.declared.order.Placed.{Placed}

-- the groups of a table, each with the partition of its key
pub record ArePlaced (partitions : ℕ) (types : List DataType) (table : List Group) (placed : List Placed) : Type 0 where
  pub same : map (λ p. p.group) placed ≡ table
  pub parts : All (λ p. p.partition ≡ partition partitions types p.group.key.items) placed
