use Rattle.std.proofs.Common.{◌∙◌, ◌≡◌, length, arith}
use Rattle.pipe_running.proofs.RunFacts.{begun, done, turn}
use Rattle.pipe_running.proofs.interface.AggregateFn.pre_agg_ordered.Goals as goal

pub loop-index-init : goal.loop-index-init
loop-index-init g c =
    let state = g.Self.AggregateFn in
    let law = g.met.Self.AggregateFn in
    begun state.after_value state.takes state.seen law.seen_by_one law.takes_alike c.args.chunk c.args.first_row c.args.values.now c.args.self.now c.requires.taken

pub pre_agg-requires-clause-taken : goal.pre_agg-requires-clause-taken
pre_agg-requires-clause-taken g c =
    let state = g.Self.AggregateFn in
    let law = g.met.Self.AggregateFn in
    let one = turn state.after_value state.takes state.seen law.seen_by_one law.takes_alike c.args.chunk c.args.first_row c.args.values.now c.args.self.now
    c.loop-index.index c.loop-index.values c.loop-index.self c.loop-index-test.true c.loop-index.invariant in
    rw (c.replace-value.ensures.value ∙ one.is c.index-values-index.result) one.takes_it

pub pre_agg-requires-clause-few : goal.pre_agg-requires-clause-few
pre_agg-requires-clause-few g c =
    let state = g.Self.AggregateFn in
    let law = g.met.Self.AggregateFn in
    let one = turn state.after_value state.takes state.seen law.seen_by_one law.takes_alike c.args.chunk c.args.first_row c.args.values.now c.args.self.now
    c.loop-index.index c.loop-index.values c.loop-index.self c.loop-index-test.true c.loop-index.invariant in
    omega (arith, one.room, c.requires.few)

pub loop-index-preserved : goal.loop-index-preserved
loop-index-preserved g c =
    let state = g.Self.AggregateFn in
    let law = g.met.Self.AggregateFn in
    let one = turn state.after_value state.takes state.seen law.seen_by_one law.takes_alike c.args.chunk c.args.first_row c.args.values.now c.args.self.now
    c.loop-index.index c.loop-index.values c.loop-index.self c.loop-index-test.true c.loop-index.invariant in
    rw (c.pre_agg.ensures, c.replace-value.ensures.after, c.replace-value.ensures.value ∙ one.is c.index-values-index.result) one.next

pub returns-clause-state : goal.returns-clause-state
returns-clause-state g c =
    let state = g.Self.AggregateFn in
    let law = g.met.Self.AggregateFn in
    let at : c.loop-index.index ≡ length c.args.values.now = omega (arith, c.loop-index-test.false, c.loop-index.auto.index-end) in
    (done state.after_value state.takes state.seen law.seen_by_one law.takes_alike c.args.chunk c.args.first_row c.args.values.now c.args.self.now
    c.loop-index.index c.loop-index.values c.loop-index.self at c.loop-index.invariant).0

pub returns-clause-nulls : goal.returns-clause-nulls
returns-clause-nulls g c =
    let state = g.Self.AggregateFn in
    let law = g.met.Self.AggregateFn in
    let at : c.loop-index.index ≡ length c.args.values.now = omega (arith, c.loop-index-test.false, c.loop-index.auto.index-end) in
    (done state.after_value state.takes state.seen law.seen_by_one law.takes_alike c.args.chunk c.args.first_row c.args.values.now c.args.self.now
    c.loop-index.index c.loop-index.values c.loop-index.self at c.loop-index.invariant).1
