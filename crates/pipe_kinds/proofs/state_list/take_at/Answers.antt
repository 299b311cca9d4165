use Rattle.std.proofs.Common.{◌∙◌, ap, sym, arith}
use Rattle.pipe_running.specs.declared.function.AggregateFunction.{AggregateFunction}
use Rattle.pipe_running.specs.States.{after_value, seen, takes}
use Rattle.pipe_kinds.proofs.KindFacts.{at-map, put-map}
use Rattle.pipe_kinds.proofs.state_list.take_at.Goals as goal

pub pre_agg-requires-clause-taken : goal.pre_agg-requires-clause-taken
pre_agg-requires-clause-taken g c =
    let s = c.index_mut-state.result.now in
    let here = at-map g.A.AsFunction.as_function c.args.states.now.items c.args.at s c.requires.within c.index_mut-state.ensures.value in
    g.met.A.KindState.is_kind.takes_is s c.args.value ∙ ap (λ (f : AggregateFunction). takes f c.args.value) (sym here) ∙ c.requires.taken

pub pre_agg-requires-clause-few : goal.pre_agg-requires-clause-few
pre_agg-requires-clause-few g c =
    let s = c.index_mut-state.result.now in
    let here = at-map g.A.AsFunction.as_function c.args.states.now.items c.args.at s c.requires.within c.index_mut-state.ensures.value in
    omega (arith, g.met.A.KindState.is_kind.seen_is s, ap seen here, c.requires.few)

pub returns-clause-states : goal.returns-clause-states
returns-clause-states g c =
    let s = c.index_mut-state.result.now in
    let here = at-map g.A.AsFunction.as_function c.args.states.now.items c.args.at s c.requires.within c.index_mut-state.ensures.value in
    put-map g.A.AsFunction.as_function c.args.states.now.items c.args.at s _ c.pre_agg.new.self
    (ap g.A.AsFunction.as_function c.pre_agg.ensures ∙ g.met.A.KindState.is_kind.after_is c.args.place c.args.value s ∙ ap (after_value c.args.place c.args.value) (sym here))
