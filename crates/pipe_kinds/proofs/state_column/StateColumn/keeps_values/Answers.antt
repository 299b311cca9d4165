use Rattle.std.proofs.Common.{◌≡◌, ◌∙◌, false, sym, subst}
use Rattle.pipe_kinds.specs.Columns.{ColumnStates, state_at}
use Rattle.pipe_kinds.specs.Keeping.{keeps_value}
use Rattle.pipe_kinds.proofs.HeldFacts.{plain-kind}
use Rattle.pipe_kinds.proofs.state_column.StateColumn.keeps_values.Goals as goal

pub returns : goal.returns
returns c = λ i no.
    subst (λ (x : ColumnStates). keeps_value (state_at x.states i) ≡ false) c.self.view_is (plain-kind c.self.inside.kind i (sym c.keeps_values.ensures ∙ no))
