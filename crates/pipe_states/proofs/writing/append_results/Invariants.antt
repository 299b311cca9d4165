use Rattle.std.proofs.Common.{drop}
use Rattle.pipe_states.proofs.Saved.{AreAppended}
use Rattle.pipe_states.proofs.writing.append_results.Given as goal

-- the results so far are written, and the others are left
abbrev pub invariant-loop-function : goal.invariant-loop-function
invariant-loop-function l =
    AreAppended l.functions l.results l.fn.text.items l.text.items (drop l.function-index l.functions) l.rest
