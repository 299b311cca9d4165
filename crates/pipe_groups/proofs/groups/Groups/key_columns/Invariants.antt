use Rattle.std.proofs.Common.{length, map, take}
use Rattle.pipe_groups.specs.Columns.{columns_of_unfinished, HaveKeys}
use Rattle.pipe_groups.specs.Groups.{group_of}
use Rattle.pipe_groups.proofs.groups.Groups.key_columns.Given as goal

-- the keys of the groups so far
abbrev pub invariant-loop-index : goal.invariant-loop-index
invariant-loop-index l =
    HaveKeys l.self.shape.key_types (take (length l.self.shape.key_types) l.self.shape.fields) (map (λ i. (group_of l.self.groups i).key) (take l.index-index l.taken)) (columns_of_unfinished l.columns.items)
