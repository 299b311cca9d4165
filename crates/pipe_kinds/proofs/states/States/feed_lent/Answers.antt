use Rattle.std.proofs.Common.{◌≡◌, ◌+◌, ◌<◌, false, true, subst, sym}
use Rattle.pipe_running.specs.declared.function.AggregateFunction.{AggregateFunction}
use Rattle.pipe_running.specs.Lent.{keeps_text}
use Rattle.pipe_running.specs.States.{after_value, seen, takes}
use Rattle.pipe_kinds.proofs.ViewFacts.{cell-is, column-high, put-seen, put-stored}
use Rattle.pipe_kinds.proofs.states.States.feed_lent.Goals as goal

pub invariant_of-self : goal.invariant_of-self
invariant_of-self c =
    put-stored c.self.inside.columns.items c.self.inside.count c.self.inside.room c.args.self.now c.self.view_is c.self.invariant c.args.group c.args.j c.index_mut.result.now
    c.requires.within c.requires.there c.index_mut.ensures.value (after_value c.args.place c.args.value.now) c.feed_lent.new.self c.feed_lent.ensures

pub returns : goal.returns
returns c =
    put-seen c.self.inside.columns.items c.self.inside.count c.self.inside.room c.args.self.now c.self.view_is c.self.invariant c.args.group c.args.j c.index_mut.result.now
    c.requires.within c.requires.there c.index_mut.ensures.value (after_value c.args.place c.args.value.now) c.feed_lent.new.self c.feed_lent.ensures

pub feed_lent-requires-clause-within : goal.feed_lent-requires-clause-within
feed_lent-requires-clause-within c = column-high c.self.inside.columns.items c.self.inside.count c.self.inside.room c.args.self.now c.self.view_is c.self.invariant c.args.group c.args.j c.index_mut.result.now c.requires.within c.requires.there c.index_mut.ensures.value

pub feed_lent-requires-clause-taken : goal.feed_lent-requires-clause-taken
feed_lent-requires-clause-taken c =
    subst (λ (f : AggregateFunction). takes f c.args.value.now ≡ true) (sym (cell-is c.self.inside.columns.items c.self.inside.count c.self.inside.room c.args.self.now c.self.view_is c.self.invariant c.args.group c.args.j c.index_mut.result.now
    c.requires.within c.requires.there c.index_mut.ensures.value))
    c.requires.taken

pub feed_lent-requires-clause-few : goal.feed_lent-requires-clause-few
feed_lent-requires-clause-few c =
    subst (λ (f : AggregateFunction). seen f + 1 < 4294967296) (sym (cell-is c.self.inside.columns.items c.self.inside.count c.self.inside.room c.args.self.now c.self.view_is c.self.invariant c.args.group c.args.j c.index_mut.result.now
    c.requires.within c.requires.there c.index_mut.ensures.value))
    c.requires.few

pub feed_lent-requires-clause-plain : goal.feed_lent-requires-clause-plain
feed_lent-requires-clause-plain c =
    subst (λ (f : AggregateFunction). keeps_text c.args.place c.args.value.now f ≡ false) (sym (cell-is c.self.inside.columns.items c.self.inside.count c.self.inside.room c.args.self.now c.self.view_is c.self.invariant c.args.group c.args.j c.index_mut.result.now
    c.requires.within c.requires.there c.index_mut.ensures.value))
    c.requires.plain
