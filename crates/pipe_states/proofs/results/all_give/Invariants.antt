use Rattle.std.proofs.Common.{drop}
use Rattle.pipe_states.proofs.Saved.{AreGiven}
use Rattle.pipe_states.proofs.results.all_give.Given as goal

-- the results so far can be given, and the others decide
abbrev pub invariant-loop-function : goal.invariant-loop-function
invariant-loop-function l = AreGiven l.functions l.fn.rows l.results (drop l.function-index l.functions) l.rest
