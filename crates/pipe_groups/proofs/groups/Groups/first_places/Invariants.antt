use Rattle.std.proofs.Common.{◌≡◌, map, Some, take}
use Rattle.pipe_groups.specs.Groups.{group_of}
use Rattle.pipe_groups.proofs.groups.Groups.first_places.Given as goal

-- the places of the groups so far
abbrev pub invariant-loop-index : goal.invariant-loop-index
invariant-loop-index l = map Some l.firsts.items ≡ map (λ i. (group_of l.self.groups i).first) (take l.index-index l.taken)
