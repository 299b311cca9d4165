use Rattle.std.proofs.Common.{◌≡◌, ◌∙◌, ◌+◌, ◌<◌, true, length, set, ap, sym, subst}
use Rattle.pipe_running.specs.States.{after_value, seen, takes}
use Rattle.pipe_kinds.specs.Columns.{ColumnStates, state_at}
use Rattle.pipe_kinds.proofs.ColumnFacts.{put-state}
use Rattle.pipe_kinds.proofs.state_column.StateColumn.feed.Goals as goal

pub feed-requires-clause-within : goal.feed-requires-clause-within
feed-requires-clause-within c = subst (λ (x : ColumnStates). c.args.group < length x.states) (sym c.self.view_is) c.requires.within

pub feed-requires-clause-taken : goal.feed-requires-clause-taken
feed-requires-clause-taken c = subst (λ (x : ColumnStates). takes (state_at x.states c.args.group) c.args.value ≡ true) (sym c.self.view_is) c.requires.taken

pub feed-requires-clause-few : goal.feed-requires-clause-few
feed-requires-clause-few c = subst (λ (x : ColumnStates). seen (state_at x.states c.args.group) + 1 < 4294967296) (sym c.self.view_is) c.requires.few

pub returns : goal.returns
returns c =
    let g = c.args.group in
    put-state c.args.self.now g (after_value c.args.place c.args.value (state_at c.args.self.now.states g)) _ _ _
    (c.feed.ensures.fresh ∙ ap (λ (x : ColumnStates). x.fresh) c.self.view_is)
    (c.feed.ensures.states ∙ ap (λ (x : ColumnStates). set x.states g (after_value c.args.place c.args.value (state_at x.states g))) c.self.view_is)
    (c.feed.ensures.room ∙ ap (λ (x : ColumnStates). x.room) c.self.view_is)
