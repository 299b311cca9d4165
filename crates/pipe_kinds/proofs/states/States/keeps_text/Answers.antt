use Rattle.std.proofs.Common.{◌∙◌, ap}
use Rattle.pipe_running.specs.declared.function.AggregateFunction.{AggregateFunction}
use Rattle.pipe_running.specs.Lent.{keeps_text}
use Rattle.pipe_kinds.proofs.ViewFacts.{cell-is, column-high}
use Rattle.pipe_kinds.proofs.states.States.keeps_text.Goals as goal

pub keeps_text-requires : goal.keeps_text-requires
keeps_text-requires c =
    column-high c.self.inside.columns.items c.self.inside.count c.self.inside.room c.args.self.now c.self.view_is c.self.invariant c.args.group c.args.j c.index.result.now c.requires.within c.requires.there c.index.ensures

pub returns : goal.returns
returns c =
    c.keeps_text.ensures ∙ ap (λ (f : AggregateFunction). keeps_text c.args.place c.args.value.now f)
    (cell-is c.self.inside.columns.items c.self.inside.count c.self.inside.room c.args.self.now c.self.view_is c.self.invariant c.args.group c.args.j c.index.result.now c.requires.within c.requires.there c.index.ensures)
