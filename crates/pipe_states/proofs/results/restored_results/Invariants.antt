use Rattle.std.proofs.Common.{drop}
use Rattle.pipe_states.proofs.Saved.{AreRestored}
use Rattle.pipe_states.proofs.results.restored_results.Given as goal

-- the results so far are at hand, and the values that are left give the others
abbrev pub invariant-loop-function : goal.invariant-loop-function
invariant-loop-function l =
    AreRestored l.functions l.fn.values l.results.items (drop l.function-index l.functions) l.function-index l.j (drop l.j l.values)
