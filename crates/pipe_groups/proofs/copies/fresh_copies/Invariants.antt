use Rattle.std.proofs.Common.{◌≡◌, take}
use Rattle.pipe_running.specs.GroupStates.{fresh_states}
use Rattle.pipe_groups.proofs.copies.fresh_copies.Given as goal

-- the aggregates so far
abbrev pub invariant-loop-prototype : goal.invariant-loop-prototype
invariant-loop-prototype l = l.fresh.items ≡ fresh_states (take l.prototype-index l.prototypes)
