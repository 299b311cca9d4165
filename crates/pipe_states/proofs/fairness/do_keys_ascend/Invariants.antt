use Rattle.pipe_states.proofs.Ascent.{NeighboursAscend}
use Rattle.pipe_states.proofs.fairness.do_keys_ascend.Given as goal

-- each key so far is below that behind it
abbrev pub invariant-loop-i : goal.invariant-loop-i
invariant-loop-i l = NeighboursAscend l.rows l.i
