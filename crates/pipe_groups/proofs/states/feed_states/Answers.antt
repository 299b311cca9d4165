use Rattle.std.proofs.Common.{◌≡◌, ◌∙◌, ◌<◌, length, refl, ap, arith}
use Rattle.pipe_columns.specs.declared.any_value.AnyValue.{AnyValue}
use Rattle.pipe_columns.specs.Frame.{value_at}
use Rattle.pipe_kinds.specs.ManyStates.{ManyStates, state_of, states_in, with_state_of}
use Rattle.pipe_running.specs.States.{after_value}
use Rattle.pipe_groups.proofs.ManyFacts.{changed-count, many-end, many-few, many-next, many-none, many-takes}
use Rattle.pipe_groups.proofs.StateFacts.{drop-next, value-next}
use Rattle.pipe_groups.proofs.states.feed_states.Goals as goal

pub loop-j-init : goal.loop-j-init
loop-j-init c = record { inputs = refl; fed = many-none c.args.place c.args.values c.args.states.now c.args.index }

pub feed-requires-clause-within : goal.feed-requires-clause-within
feed-requires-clause-within c = omega (arith, c.requires.within, changed-count _ _ _ _ c.loop-j.invariant.fed.changed)

pub feed-requires-clause-there : goal.feed-requires-clause-there
feed-requires-clause-there c = omega (arith, c.loop-j-test.true, c.width-j-end.ensures.width, ap (λ (m : ManyStates). length m.fresh) c.loop-j.invariant.fed.changed.others)

pub feed-requires-clause-taken : goal.feed-requires-clause-taken
feed-requires-clause-taken c =
    let here : c.loop-j.j < length (states_in c.args.states.now c.args.index) = omega (arith, c.loop-j-test.true, c.width-j-end.ensures.width, c.width-j-end.ensures.sized c.args.index c.requires.within) in
    let value_is : c.take_out-value.result ≡ value_at c.args.values c.loop-j.j = c.take_out-value.ensures.value ∙ value-next c.args.values c.loop-j.values c.loop-j.j c.loop-j.invariant.inputs in
    rw value_is (many-takes _ _ _ _ _ _ c.loop-j.invariant.fed here c.requires.taken)

pub feed-requires-clause-few : goal.feed-requires-clause-few
feed-requires-clause-few c =
    let here : c.loop-j.j < length (states_in c.args.states.now c.args.index) = omega (arith, c.loop-j-test.true, c.width-j-end.ensures.width, c.width-j-end.ensures.sized c.args.index c.requires.within) in
    omega (arith, many-few 4294967294 _ _ _ _ c.loop-j.invariant.fed.changed here c.requires.few)

pub loop-j-preserved : goal.loop-j-preserved
loop-j-preserved c =
    let here : c.loop-j.j < length (states_in c.args.states.now c.args.index) = omega (arith, c.loop-j-test.true, c.width-j-end.ensures.width, c.width-j-end.ensures.sized c.args.index c.requires.within) in
    let value_is : c.take_out-value.result ≡ value_at c.args.values c.loop-j.j = c.take_out-value.ensures.value ∙ value-next c.args.values c.loop-j.values c.loop-j.j c.loop-j.invariant.inputs in
    let j = c.loop-j.j in
    let i = c.args.index in
    let now : ManyStates = c.loop-j.states in
    let fed : c.feed.new.self ≡ with_state_of i j (after_value c.args.place (value_at c.args.values j) (state_of now i j)) now =
    c.feed.ensures ∙ ap (λ (v : AnyValue). with_state_of i j (after_value c.args.place v (state_of now i j)) now) value_is in
    record {
      inputs = c.take_out-value.ensures.rest ∙ drop-next c.args.values c.loop-j.values j c.loop-j.invariant.inputs;
      fed = many-next _ _ _ _ _ _ c.loop-j.invariant.fed c.feed.new.self c.requires.within here fed;
    }

pub returns : goal.returns
returns c = many-end _ _ _ _ _ _ c.loop-j.invariant.fed (omega (arith, c.loop-j-test.false, c.width-j-end.ensures.width, c.width-j-end.ensures.sized c.args.index c.requires.within))
