use Rattle.std.proofs.Common.{subst}
use Rattle.std.proofs.lemmas.List.{get_or_read}
use Rattle.pipe_kinds.proofs.RowFacts.{KeepsNone}
use Rattle.pipe_kinds.proofs.ViewFacts.{none-kept}
use Rattle.pipe_kinds.proofs.states.States.keeps_values_at.Goals as goal

pub returns : goal.returns
returns c = λ i none.
    none-kept c.self.inside.columns.items c.self.inside.count c.self.inside.room c.args.self.now c.self.view_is c.self.invariant c.args.j
    (λ d lt. subst KeepsNone (get_or_read c.self.inside.columns.items c.args.j c.index.result.now lt c.index.ensures d) (λ k. c.keeps_values.ensures k none)) i
