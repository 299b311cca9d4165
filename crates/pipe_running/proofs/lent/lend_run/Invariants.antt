use Rattle.std.proofs.Common.{drop}
use Rattle.pipe_running.proofs.RunFacts.{Left}
use Rattle.pipe_running.proofs.lent.lend_run.Given as goal

abbrev pub invariant-loop-index : goal.invariant-loop-index
invariant-loop-index g l = Left g.A.AggregateFn.after_value g.A.AggregateFn.takes g.A.AggregateFn.seen l.chunk l.first_row l.values l.initial.state l.index (drop l.index l.values) l.state
