use Rattle.pipe_groups.proofs.EachFacts.{EachFed}
use Rattle.pipe_groups.proofs.feed_run.feed_each.Given as goal

-- the rows before the one at hand are fed
abbrev pub invariant-loop-at : goal.invariant-loop-at
invariant-loop-at l = EachFed l.rows l.chunk l.row l.len l.fn.states l.states l.index l.j l.at
