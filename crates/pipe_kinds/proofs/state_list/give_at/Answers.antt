use Rattle.std.proofs.Common.{◌∙◌, ap, sym}
use Rattle.pipe_running.specs.States.{fresh, given}
use Rattle.pipe_kinds.proofs.KindFacts.{at-map, put-map}
use Rattle.pipe_kinds.proofs.state_list.give_at.Goals as goal

pub returns-clause-given : goal.returns-clause-given
returns-clause-given g c =
    let s = c.index_mut-state.result.now in
    let here = at-map g.A.AsFunction.as_function c.args.states.now.items c.args.at s c.requires c.index_mut-state.ensures.value in
    c.finalize.ensures.given ∙ g.met.A.KindState.is_kind.given_is s ∙ ap given (sym here)

pub returns-clause-states : goal.returns-clause-states
returns-clause-states g c =
    let s = c.index_mut-state.result.now in
    let here = at-map g.A.AsFunction.as_function c.args.states.now.items c.args.at s c.requires c.index_mut-state.ensures.value in
    put-map g.A.AsFunction.as_function c.args.states.now.items c.args.at s _ c.finalize.new.self
    (ap g.A.AsFunction.as_function c.finalize.ensures.fresh ∙ g.met.A.KindState.is_kind.fresh_is s ∙ ap fresh (sym here))
