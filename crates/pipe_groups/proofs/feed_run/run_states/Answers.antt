use Rattle.std.proofs.Common.{◌<◌, length, ap, arith}
use Rattle.pipe_inputs.specs.RowRuns.{run_inputs}
use Rattle.pipe_kinds.specs.Columns.{no_state}
use Rattle.pipe_kinds.specs.ManyStates.{ManyStates, states_in}
use Rattle.pipe_groups.proofs.ManyFacts.{changed-count, changed-long, changed-one, many-few, run-end, run-next, run-none}
use Rattle.pipe_groups.proofs.RunFacts.{run-plain-at, run-takes-at}
use Rattle.pipe_groups.proofs.feed_run.run_states.Goals as goal

pub loop-j-init : goal.loop-j-init
loop-j-init c = run-none c.args.chunk c.args.row (run_inputs c.args.rows.now c.args.row c.args.len) c.args.states.now c.args.index

pub feed_input-requires-clause-within : goal.feed_input-requires-clause-within
feed_input-requires-clause-within c = omega (arith, c.requires.within, changed-count _ _ _ _ c.loop-j.invariant.changed)

pub feed_input-requires-clause-column : goal.feed_input-requires-clause-column
feed_input-requires-clause-column c = omega (arith, c.loop-j-test.true, c.width-j-end.ensures.width, ap (λ (m : ManyStates). length m.fresh) c.loop-j.invariant.changed.others)

pub feed_input-requires-clause-state : goal.feed_input-requires-clause-state
feed_input-requires-clause-state c =
    let here : c.loop-j.j < length (states_in c.args.states.now c.args.index) = omega (arith, c.loop-j-test.true, c.width-j-end.ensures.width, c.width-j-end.ensures.sized c.args.index c.requires.within) in
    changed-long _ _ _ _ c.loop-j.invariant.changed here

pub feed_input-requires-clause-plain : goal.feed_input-requires-clause-plain
feed_input-requires-clause-plain c =
    let here : c.loop-j.j < length (states_in c.args.states.now c.args.index) = omega (arith, c.loop-j-test.true, c.width-j-end.ensures.width, c.width-j-end.ensures.sized c.args.index c.requires.within) in
    rw (changed-one _ _ _ _ c.loop-j.invariant.changed)
    (run-plain-at (states_in c.args.states.now c.args.index) (run_inputs c.args.rows.now c.args.row c.args.len) c.loop-j.j no_state here c.requires.plain)

pub feed_input-requires-clause-taken : goal.feed_input-requires-clause-taken
feed_input-requires-clause-taken c =
    let here : c.loop-j.j < length (states_in c.args.states.now c.args.index) = omega (arith, c.loop-j-test.true, c.width-j-end.ensures.width, c.width-j-end.ensures.sized c.args.index c.requires.within) in
    rw (changed-one _ _ _ _ c.loop-j.invariant.changed)
    (run-takes-at (states_in c.args.states.now c.args.index) (run_inputs c.args.rows.now c.args.row c.args.len) c.loop-j.j no_state here c.requires.taken)

pub feed_input-requires-clause-few : goal.feed_input-requires-clause-few
feed_input-requires-clause-few c =
    let here : c.loop-j.j < length (states_in c.args.states.now c.args.index) = omega (arith, c.loop-j-test.true, c.width-j-end.ensures.width, c.width-j-end.ensures.sized c.args.index c.requires.within) in
    omega (arith, c.requires.short, many-few _ _ _ _ _ c.loop-j.invariant.changed here c.requires.few)

pub loop-j-preserved : goal.loop-j-preserved
loop-j-preserved c =
    let here : c.loop-j.j < length (states_in c.args.states.now c.args.index) = omega (arith, c.loop-j-test.true, c.width-j-end.ensures.width, c.width-j-end.ensures.sized c.args.index c.requires.within) in
    run-next _ _ _ _ _ _ _ c.loop-j.invariant c.feed_input.new.states c.requires.within here c.feed_input.ensures

pub returns : goal.returns
returns c = run-end _ _ _ _ _ _ _ c.loop-j.invariant (omega (arith, c.loop-j-test.false, c.width-j-end.ensures.width, c.width-j-end.ensures.sized c.args.index c.requires.within))
