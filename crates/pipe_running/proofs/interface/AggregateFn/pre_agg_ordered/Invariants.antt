use Rattle.pipe_running.proofs.RunFacts.{Taken}
use Rattle.pipe_running.proofs.interface.AggregateFn.pre_agg_ordered.Given as goal

abbrev pub invariant-loop-index : goal.invariant-loop-index
invariant-loop-index g l = Taken g.Self.AggregateFn.after_value g.Self.AggregateFn.takes g.Self.AggregateFn.seen l.chunk l.first_row l.initial.values l.initial.self l.index l.values l.self
