use Rattle.std.proofs.Common.{◌≡◌, ◌+◌, ◌<◌, true, subst, sym}
use Rattle.pipe_running.specs.declared.function.AggregateFunction.{AggregateFunction}
use Rattle.pipe_running.specs.States.{after_value, seen, takes}
use Rattle.pipe_kinds.proofs.ViewFacts.{cell-is, column-high, put-seen, put-stored}
use Rattle.pipe_kinds.proofs.states.States.feed.Goals as goal

pub invariant_of-self : goal.invariant_of-self
invariant_of-self c =
    put-stored c.self.inside.columns.items c.self.inside.count c.self.inside.room c.args.self.now c.self.view_is c.self.invariant c.args.group c.args.j c.index_mut.result.now
    c.requires.within c.requires.there c.index_mut.ensures.value (after_value c.args.place c.args.value) c.feed.new.self c.feed.ensures

pub returns : goal.returns
returns c =
    put-seen c.self.inside.columns.items c.self.inside.count c.self.inside.room c.args.self.now c.self.view_is c.self.invariant c.args.group c.args.j c.index_mut.result.now
    c.requires.within c.requires.there c.index_mut.ensures.value (after_value c.args.place c.args.value) c.feed.new.self c.feed.ensures

pub feed-requires-clause-within : goal.feed-requires-clause-within
feed-requires-clause-within c = column-high c.self.inside.columns.items c.self.inside.count c.self.inside.room c.args.self.now c.self.view_is c.self.invariant c.args.group c.args.j c.index_mut.result.now c.requires.within c.requires.there c.index_mut.ensures.value

pub feed-requires-clause-taken : goal.feed-requires-clause-taken
feed-requires-clause-taken c =
    subst (λ (f : AggregateFunction). takes f c.args.value ≡ true) (sym (cell-is c.self.inside.columns.items c.self.inside.count c.self.inside.room c.args.self.now c.self.view_is c.self.invariant c.args.group c.args.j c.index_mut.result.now
    c.requires.within c.requires.there c.index_mut.ensures.value))
    c.requires.taken

pub feed-requires-clause-few : goal.feed-requires-clause-few
feed-requires-clause-few c =
    subst (λ (f : AggregateFunction). seen f + 1 < 4294967296) (sym (cell-is c.self.inside.columns.items c.self.inside.count c.self.inside.room c.args.self.now c.self.view_is c.self.invariant c.args.group c.args.j c.index_mut.result.now
    c.requires.within c.requires.there c.index_mut.ensures.value))
    c.requires.few
