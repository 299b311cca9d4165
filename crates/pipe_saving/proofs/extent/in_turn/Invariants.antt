use Rattle.std.proofs.Common.{◌≡◌, map, take}
use Rattle.pipe_saving.specs.Lists.{extent_at}
use Rattle.pipe_saving.proofs.extent.in_turn.Given as goal

-- the extents so far
abbrev pub invariant-loop-index : goal.invariant-loop-index
invariant-loop-index l = l.turned.items ≡ map (extent_at l.extents) (take l.index-index l.order)
