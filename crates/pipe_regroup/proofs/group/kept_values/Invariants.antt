use Rattle.std.proofs.Common.{◌≡◌, take}
use Rattle.pipe_states.specs.Regrouped.{kept}
use Rattle.pipe_regroup.proofs.group.kept_values.Given as goal

-- the values at the positions so far
abbrev pub invariant-loop-i : goal.invariant-loop-i
invariant-loop-i l = l.values.items ≡ kept (take l.i l.keep) l.key
