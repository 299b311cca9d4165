use Rattle.std.proofs.Common.{◌≡◌, map, take}
use Rattle.pipe_run.proofs.round.picks_of.Given as goal

-- the picks of the workers before
abbrev pub invariant-loop-worker : goal.invariant-loop-worker
invariant-loop-worker l = l.picks.items ≡ map (λ x. x.picks) (take l.worker l.rested)
