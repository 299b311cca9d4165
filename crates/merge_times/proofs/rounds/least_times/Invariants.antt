-- The list is as long as before.
use Rattle.std.proofs.Common.{◌≡◌, length}
use Rattle.merge_times.proofs.rounds.least_times.Given as goal

abbrev pub invariant-loop-round : goal.invariant-loop-round
invariant-loop-round g l = length l.values ≡ length l.fn.values
