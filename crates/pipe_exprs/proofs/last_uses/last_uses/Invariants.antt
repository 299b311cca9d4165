use Rattle.std.proofs.Common.{◌≡◌, ◌-◌, ◌+◌, replicate}
use Rattle.pipe_exprs.specs.Uses.{AreLastUses}
use Rattle.pipe_exprs.proofs.last_uses.last_uses.Given as goal

-- no node is used so far
abbrev pub invariant-loop : goal.invariant-loop
invariant-loop l = l.uses.items ≡ replicate l.counter 0

-- the last uses by the nodes so far
abbrev pub invariant-loop-step : goal.invariant-loop-step
invariant-loop-step l = AreLastUses l.arena l.root (l.root.0 + 1 - l.step) l.uses.items
