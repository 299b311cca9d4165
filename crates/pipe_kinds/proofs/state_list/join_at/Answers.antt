use Rattle.std.proofs.Common.{◌∙◌, ap, sym}
use Rattle.pipe_running.specs.States.{joined}
use Rattle.pipe_kinds.proofs.KindFacts.{at-map, put-map}
use Rattle.pipe_kinds.proofs.state_list.join_at.Goals as goal

pub returns-clause-states : goal.returns-clause-states
returns-clause-states g c =
    let s = c.index_mut-state.result.now in
    let o = c.index_mut.result.now in
    let here = at-map g.A.AsFunction.as_function c.args.states.now.items c.args.at s c.requires.within c.index_mut-state.ensures.value in
    let there = at-map g.A.AsFunction.as_function c.args.others.now.items c.args.from o c.requires.from c.index_mut.ensures.value in
    let other = ap g.A.AsFunction.as_function c.replace-other.ensures.value ∙ sym there in
    put-map g.A.AsFunction.as_function c.args.states.now.items c.args.at s _ c.combine.new.self
    (ap g.A.AsFunction.as_function c.combine.ensures ∙ g.met.A.KindState.is_kind.joined_is s c.replace-other.result ∙ (λ i. joined (sym here i) (other i)))

pub returns-clause-others : goal.returns-clause-others
returns-clause-others g c =
    let o = c.index_mut.result.now in
    put-map g.A.AsFunction.as_function c.args.others.now.items c.args.from o _ c.replace-other.new.dest (ap g.A.AsFunction.as_function c.replace-other.ensures.after)
