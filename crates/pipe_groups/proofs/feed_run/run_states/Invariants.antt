use Rattle.pipe_inputs.specs.RowRuns.{run_inputs}
use Rattle.pipe_groups.proofs.ManyFacts.{RunMany}
use Rattle.pipe_groups.proofs.feed_run.run_states.Given as goal

-- the states so far are fed
abbrev pub invariant-loop-j : goal.invariant-loop-j
invariant-loop-j l = RunMany l.chunk l.row (run_inputs l.rows l.row l.len) l.fn.states l.states l.index l.j
