use Rattle.std.proofs.Common.{◌≡◌, ◌+◌, ◌<◌, None, length, true, subst, sym}
use Rattle.std.specs.List.{list_all}
use Rattle.pipe_running.specs.declared.function.AggregateFunction.{AggregateFunction}
use Rattle.pipe_running.specs.Runs.{after_run}
use Rattle.pipe_running.specs.Lent.{text_of_run}
use Rattle.pipe_running.specs.States.{after_value, seen, takes}
use Rattle.pipe_kinds.proofs.ViewFacts.{cell-is, column-high, put-seen, put-stored}
use Rattle.pipe_kinds.proofs.states.States.feed_run.Goals as goal

pub invariant_of-self : goal.invariant_of-self
invariant_of-self c =
    put-stored c.self.inside.columns.items c.self.inside.count c.self.inside.room c.args.self.now c.self.view_is c.self.invariant c.args.group c.args.j c.index_mut.result.now
    c.requires.within c.requires.there c.index_mut.ensures.value (after_run after_value c.args.chunk c.args.row c.args.values.now) c.feed_run.new.self c.feed_run.ensures

pub returns : goal.returns
returns c =
    put-seen c.self.inside.columns.items c.self.inside.count c.self.inside.room c.args.self.now c.self.view_is c.self.invariant c.args.group c.args.j c.index_mut.result.now
    c.requires.within c.requires.there c.index_mut.ensures.value (after_run after_value c.args.chunk c.args.row c.args.values.now) c.feed_run.new.self c.feed_run.ensures

pub feed_run-requires-clause-within : goal.feed_run-requires-clause-within
feed_run-requires-clause-within c = column-high c.self.inside.columns.items c.self.inside.count c.self.inside.room c.args.self.now c.self.view_is c.self.invariant c.args.group c.args.j c.index_mut.result.now c.requires.within c.requires.there c.index_mut.ensures.value

pub feed_run-requires-clause-taken : goal.feed_run-requires-clause-taken
feed_run-requires-clause-taken c =
    subst (λ (f : AggregateFunction). list_all (λ v. takes f v) c.args.values.now ≡ true) (sym (cell-is c.self.inside.columns.items c.self.inside.count c.self.inside.room c.args.self.now c.self.view_is c.self.invariant c.args.group c.args.j c.index_mut.result.now
    c.requires.within c.requires.there c.index_mut.ensures.value))
    c.requires.taken

pub feed_run-requires-clause-few : goal.feed_run-requires-clause-few
feed_run-requires-clause-few c =
    subst (λ (f : AggregateFunction). seen f + length c.args.values.now < 4294967296) (sym (cell-is c.self.inside.columns.items c.self.inside.count c.self.inside.room c.args.self.now c.self.view_is c.self.invariant c.args.group c.args.j c.index_mut.result.now
    c.requires.within c.requires.there c.index_mut.ensures.value))
    c.requires.few

pub feed_run-requires-clause-plain : goal.feed_run-requires-clause-plain
feed_run-requires-clause-plain c =
    subst (λ (f : AggregateFunction). text_of_run c.args.chunk c.args.row c.args.values.now f ≡ None) (sym (cell-is c.self.inside.columns.items c.self.inside.count c.self.inside.room c.args.self.now c.self.view_is c.self.invariant c.args.group c.args.j c.index_mut.result.now
    c.requires.within c.requires.there c.index_mut.ensures.value))
    c.requires.plain
