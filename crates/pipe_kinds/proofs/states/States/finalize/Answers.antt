use Rattle.std.proofs.Common.{◌∙◌, ap}
use Rattle.pipe_running.specs.States.{fresh, given}
use Rattle.pipe_kinds.proofs.ViewFacts.{cell-is, column-high, put-seen, put-stored}
use Rattle.pipe_kinds.proofs.states.States.finalize.Goals as goal

pub invariant_of-self : goal.invariant_of-self
invariant_of-self c =
    put-stored c.self.inside.columns.items c.self.inside.count c.self.inside.room c.args.self.now c.self.view_is c.self.invariant c.args.group c.args.j c.index_mut.result.now
    c.requires.within c.requires.there c.index_mut.ensures.value fresh c.finalize.new.self c.finalize.ensures.states

pub returns-clause-given : goal.returns-clause-given
returns-clause-given c =
    c.finalize.ensures.given ∙ ap given (cell-is c.self.inside.columns.items c.self.inside.count c.self.inside.room c.args.self.now c.self.view_is c.self.invariant c.args.group c.args.j c.index_mut.result.now
    c.requires.within c.requires.there c.index_mut.ensures.value)

pub returns-clause-states : goal.returns-clause-states
returns-clause-states c =
    put-seen c.self.inside.columns.items c.self.inside.count c.self.inside.room c.args.self.now c.self.view_is c.self.invariant c.args.group c.args.j c.index_mut.result.now
    c.requires.within c.requires.there c.index_mut.ensures.value fresh c.finalize.new.self c.finalize.ensures.states

pub finalize-requires : goal.finalize-requires
finalize-requires c = column-high c.self.inside.columns.items c.self.inside.count c.self.inside.room c.args.self.now c.self.view_is c.self.invariant c.args.group c.args.j c.index_mut.result.now c.requires.within c.requires.there c.index_mut.ensures.value
