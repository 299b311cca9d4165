use Rattle.std.proofs.Common.{◌≡◌}
use Rattle.memory_states.specs.Calls.{number_names}
use Rattle.memory_states.proofs.names.names_of.Given as goal

-- the names so far
abbrev pub invariant-loop-i : goal.invariant-loop-i
invariant-loop-i l = l.names.items ≡ number_names l.i
