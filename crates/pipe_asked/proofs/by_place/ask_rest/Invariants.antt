use Rattle.std.proofs.Common.{◌-◌, length}
use Rattle.pipe_asked.specs.Sources.{LeavesOthers}
use Rattle.pipe_asked.proofs.Asking.{HasAsked}
use Rattle.pipe_asked.proofs.by_place.ask_rest.Given as goal

-- what was given waits, and those that weren't asked are as before
abbrev pub invariant-parts : goal.invariant-parts
invariant-parts g l =
    HasAsked l.initial.asked l.initial.placed.items l.asked l.placed.items
    × LeavesOthers l.initial.asked l.asked

-- how many weren't asked
abbrev pub decreases-parts : goal.decreases-parts
decreases-parts g l = length l.asked.partitions - l.asked.given
