use Rattle.std.proofs.Common.{◌≡◌, map, take}
use Rattle.pipe_groups.specs.Groups.{group_of}
use Rattle.pipe_groups.specs.Placed.{key_places}
use Rattle.pipe_groups.proofs.groups.Groups.part_places.Given as goal

-- the places of the groups so far
abbrev pub invariant-loop-at : goal.invariant-loop-at
invariant-loop-at l = l.places.items ≡ key_places l.partitions 0 (map (λ i. (group_of l.self.groups i).key) (take l.at l.order))
