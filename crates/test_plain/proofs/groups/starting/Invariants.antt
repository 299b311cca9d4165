use Rattle.std.proofs.Common.{◌≡◌, take}
use Rattle.test_plain.specs.Running.{starts}
use Rattle.test_plain.proofs.groups.starting.Given as goal

-- the aggregates so far
abbrev pub invariant-loop-prototype : goal.invariant-loop-prototype
invariant-loop-prototype l = l.states.items ≡ (starts (take l.prototype-index l.prototypes)).states
