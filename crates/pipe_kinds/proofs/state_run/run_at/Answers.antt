use Rattle.std.proofs.Common.{◌∙◌, ap, sym}
use Rattle.pipe_running.specs.Runs.{after_run}
use Rattle.pipe_running.specs.States.{after_value}
use Rattle.pipe_kinds.proofs.KindFacts.{at-map, put-map}
use Rattle.pipe_kinds.proofs.state_run.run_at.Goals as goal

pub returns-clause-states : goal.returns-clause-states
returns-clause-states g c =
    let f = g.A.AsFunction.as_function in
    let s = c.index_mut-state.result.now in
    let here = at-map f c.args.states.now.items c.args.at s c.requires.within c.index_mut-state.ensures.value in
    put-map f c.args.states.now.items c.args.at s _ c.run_state.new.state
    (c.run_state.ensures ∙ ap (after_run after_value c.args.chunk c.args.first_row c.args.values.now) (sym here))
