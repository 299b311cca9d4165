use Rattle.std.proofs.Common.{List, subst}
use Rattle.std.specs.List.{All}
use Rattle.pipe_kinds.specs.Columns.{ColumnStates}
use Rattle.pipe_kinds.proofs.RowFacts.{KeepsNone}
use Rattle.pipe_kinds.proofs.ViewFacts.{none-kept}
use Rattle.pipe_kinds.proofs.states.States.keeps_values.Goals as goal

pub returns : goal.returns
returns c = λ i j none.
    none-kept c.self.inside.columns.items c.self.inside.count c.self.inside.room c.args.self.now c.self.view_is c.self.invariant j
    (λ d lt. subst (λ (cs : List ColumnStates). All KeepsNone cs) c.deref.ensures.value (c.one_keeps_values.ensures none) j d lt) i
