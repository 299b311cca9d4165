use Rattle.std.proofs.Common.{◌≡◌, ◌++◌, drop}
use Rattle.pipe_states.specs.Forms.{all_saved_types}
use Rattle.pipe_states.proofs.saved_types.push_all_types.Given as goal

-- the types so far, and those of the functions that are left, are all
abbrev pub invariant-loop-function : goal.invariant-loop-function
invariant-loop-function l =
    l.types.items ++ all_saved_types (drop l.function-index l.functions) ≡ l.fn.types.items ++ all_saved_types l.functions
