use Rattle.std.proofs.Common.{◌≡◌, ◌+◌, drop}
use Rattle.std.specs.List.{sum}
use Rattle.memory_states.proofs.lengths.come_to.Given as goal

-- what is left of the total differs from the numbers that are left as the total does from all
abbrev pub invariant-loop-number : goal.invariant-loop-number
invariant-loop-number l = sum l.numbers + l.left ≡ l.total + sum (drop l.number-index l.numbers)
