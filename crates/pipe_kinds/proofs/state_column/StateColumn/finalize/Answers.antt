use Rattle.std.proofs.Common.{◌∙◌, ◌<◌, length, set, ap, sym, subst}
use Rattle.pipe_running.specs.States.{fresh, given}
use Rattle.pipe_kinds.specs.Columns.{ColumnStates, state_at}
use Rattle.pipe_kinds.proofs.ColumnFacts.{put-state}
use Rattle.pipe_kinds.proofs.state_column.StateColumn.finalize.Goals as goal

pub finalize-requires : goal.finalize-requires
finalize-requires c = subst (λ (x : ColumnStates). c.args.group < length x.states) (sym c.self.view_is) c.requires

pub returns-clause-given : goal.returns-clause-given
returns-clause-given c = c.finalize.ensures.given ∙ ap (λ (x : ColumnStates). given (state_at x.states c.args.group)) c.self.view_is

pub returns-clause-states : goal.returns-clause-states
returns-clause-states c =
    let g = c.args.group in
    put-state c.args.self.now g (fresh (state_at c.args.self.now.states g)) _ _ _
    (c.finalize.ensures.fresh ∙ ap (λ (x : ColumnStates). x.fresh) c.self.view_is)
    (c.finalize.ensures.states ∙ ap (λ (x : ColumnStates). set x.states g (fresh (state_at x.states g))) c.self.view_is)
    (c.finalize.ensures.room ∙ ap (λ (x : ColumnStates). x.room) c.self.view_is)
