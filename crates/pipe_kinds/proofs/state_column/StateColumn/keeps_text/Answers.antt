use Rattle.std.proofs.Common.{◌∙◌, ◌<◌, length, ap, sym, subst}
use Rattle.pipe_running.specs.Lent.{keeps_text}
use Rattle.pipe_kinds.specs.Columns.{ColumnStates, state_at}
use Rattle.pipe_kinds.proofs.state_column.StateColumn.keeps_text.Goals as goal

pub keeps_text-requires : goal.keeps_text-requires
keeps_text-requires c = subst (λ (x : ColumnStates). c.args.group < length x.states) (sym c.self.view_is) c.requires

pub returns : goal.returns
returns c = c.keeps_text.ensures ∙ ap (λ (x : ColumnStates). keeps_text c.args.place c.args.value.now (state_at x.states c.args.group)) c.self.view_is
