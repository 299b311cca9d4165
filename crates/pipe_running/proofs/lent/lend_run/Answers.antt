use Rattle.pipe_running.proofs.RunFacts.{lent-turn}
use Rattle.pipe_running.proofs.lent.lend_run.Goals as goal

pub loop-index-preserved : goal.loop-index-preserved
loop-index-preserved g c =
    let state = g.A.AggregateFn in
    let law = g.met.A.AggregateFn in
    rw c.pre_agg_lent.ensures
    (lent-turn state.after_value state.takes state.seen law.seen_by_one law.takes_alike c.args.chunk c.args.first_row c.args.values.now c.args.state.now
    c.loop-index.index c.index-values-index.result c.loop-index.state c.loop-index-test.true c.index-values-index.is c.loop-index.invariant).next
