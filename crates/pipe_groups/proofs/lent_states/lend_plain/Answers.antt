use Rattle.std.proofs.Common.{◌≡◌, ◌∙◌, ◌<◌, length, ap, arith}
use Rattle.pipe_columns.specs.declared.any_value.AnyValue.{AnyValue}
use Rattle.pipe_columns.specs.Frame.{value_at}
use Rattle.pipe_inputs.specs.ChunkRows.{row_at}
use Rattle.pipe_kinds.specs.ManyStates.{ManyStates, state_of, states_in, with_state_of}
use Rattle.pipe_running.specs.States.{after_value}
use Rattle.pipe_groups.proofs.ManyFacts.{changed-count, changed-one, many-end, many-few, many-next, many-none, many-takes}
use Rattle.pipe_groups.proofs.TextFacts.{keeps-none}
use Rattle.pipe_groups.proofs.lent_states.lend_plain.Goals as goal

pub loop-j-init : goal.loop-j-init
loop-j-init c = many-none c.args.place (row_at c.args.rows.now c.args.row).inputs c.args.states.now c.args.index

pub feed_lent-requires-clause-within : goal.feed_lent-requires-clause-within
feed_lent-requires-clause-within c = omega (arith, c.requires.within, changed-count _ _ _ _ c.loop-j.invariant.changed)

pub feed_lent-requires-clause-there : goal.feed_lent-requires-clause-there
feed_lent-requires-clause-there c = omega (arith, c.loop-j-test.true, c.width-j-end.ensures.width, ap (λ (m : ManyStates). length m.fresh) c.loop-j.invariant.changed.others)

pub feed_lent-requires-clause-taken : goal.feed_lent-requires-clause-taken
feed_lent-requires-clause-taken c =
    let here : c.loop-j.j < length (states_in c.args.states.now c.args.index) = omega (arith, c.loop-j-test.true, c.width-j-end.ensures.width, c.width-j-end.ensures.sized c.args.index c.requires.within) in
    rw c.input-value.ensures (many-takes _ _ _ _ _ _ c.loop-j.invariant here c.requires.taken)

pub feed_lent-requires-clause-few : goal.feed_lent-requires-clause-few
feed_lent-requires-clause-few c =
    let here : c.loop-j.j < length (states_in c.args.states.now c.args.index) = omega (arith, c.loop-j-test.true, c.width-j-end.ensures.width, c.width-j-end.ensures.sized c.args.index c.requires.within) in
    omega (arith, many-few 4294967294 _ _ _ _ c.loop-j.invariant.changed here c.requires.few)

pub feed_lent-requires-clause-plain : goal.feed_lent-requires-clause-plain
feed_lent-requires-clause-plain c =
    rw (changed-one _ _ _ _ c.loop-j.invariant.changed) (keeps-none c.args.place _ (state_of c.args.states.now c.args.index c.loop-j.j) (c.requires.plain c.loop-j.j))

pub loop-j-preserved : goal.loop-j-preserved
loop-j-preserved c =
    let here : c.loop-j.j < length (states_in c.args.states.now c.args.index) = omega (arith, c.loop-j-test.true, c.width-j-end.ensures.width, c.width-j-end.ensures.sized c.args.index c.requires.within) in
    let j = c.loop-j.j in
    let i = c.args.index in
    let now : ManyStates = c.loop-j.states in
    let inputs = (row_at c.args.rows.now c.args.row).inputs in
    let fed : c.feed_lent.new.self ≡ with_state_of i j (after_value c.args.place (value_at inputs j) (state_of now i j)) now =
    c.feed_lent.ensures ∙ ap (λ (v : AnyValue). with_state_of i j (after_value c.args.place v (state_of now i j)) now) c.input-value.ensures in
    many-next _ _ _ _ _ _ c.loop-j.invariant c.feed_lent.new.self c.requires.within here fed

pub returns : goal.returns
returns c = many-end _ _ _ _ _ _ c.loop-j.invariant (omega (arith, c.loop-j-test.false, c.width-j-end.ensures.width, c.width-j-end.ensures.sized c.args.index c.requires.within))
