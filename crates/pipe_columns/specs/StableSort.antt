-- Sorting as a relation.
use Rattle.std.specs.Prelude.{List}
use Rattle.std.specs.declared.cmp.Ordering.{Ordering}
use Rattle.std.specs.List.Sorted.{IsPermutation, IsSortedByKey, IsStableByKey}

-- sorted by rank, where those of one rank stay in the order that they had
pub record IsSortedStably {X Y : Type 0} (rank : X → Y) (order : Y → Y → Ordering)
    (before after : List X) : Type 0 where
  pub moved : IsPermutation before after
  pub sorted : IsSortedByKey rank order after
  pub stable : IsStableByKey rank order before after
