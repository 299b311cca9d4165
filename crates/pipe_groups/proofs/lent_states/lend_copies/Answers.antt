use Rattle.std.proofs.Common.{◌≡◌, ◌∙◌, ◌<◌, length, set, ap, arith}
use Rattle.pipe_columns.specs.declared.any_value.AnyValue.{AnyValue}
use Rattle.pipe_columns.specs.Frame.{value_at}
use Rattle.pipe_inputs.specs.ChunkRows.{row_at}
use Rattle.pipe_kinds.specs.Columns.{no_state}
use Rattle.pipe_kinds.specs.ManyStates.{ManyStates, state_of, states_in, with_state_of}
use Rattle.pipe_running.specs.States.{after_value}
use Rattle.pipe_groups.proofs.ManyFacts.{changed-count, changed-here, changed-long, many-end, many-few, many-next, many-none, many-takes}
use Rattle.pipe_groups.proofs.TextFacts.{texts-next}
use Rattle.pipe_groups.proofs.lent_states.lend_copies.Goals as goal

pub loop-j-init : goal.loop-j-init
loop-j-init c = record { fed = many-none c.args.place (row_at c.args.rows.now c.args.row).inputs c.args.states.now c.args.index; copies = c.requires.copied }

pub lend_value-requires-clause-within : goal.lend_value-requires-clause-within
lend_value-requires-clause-within c = omega (arith, c.requires.within, changed-count _ _ _ _ c.loop-j.invariant.fed.changed)

pub lend_value-requires-clause-one : goal.lend_value-requires-clause-one
lend_value-requires-clause-one c = omega (arith, c.loop-j-test.true, c.width-j-end.ensures.width, ap (λ (m : ManyStates). length m.fresh) c.loop-j.invariant.fed.changed.others)

pub lend_value-requires-clause-taken : goal.lend_value-requires-clause-taken
lend_value-requires-clause-taken c =
    let here : c.loop-j.j < length (states_in c.args.states.now c.args.index) = omega (arith, c.loop-j-test.true, c.width-j-end.ensures.width, c.width-j-end.ensures.sized c.args.index c.requires.within) in
    rw c.input-value.ensures (many-takes _ _ _ _ _ _ c.loop-j.invariant.fed here c.requires.taken)

pub lend_value-requires-clause-few : goal.lend_value-requires-clause-few
lend_value-requires-clause-few c =
    let here : c.loop-j.j < length (states_in c.args.states.now c.args.index) = omega (arith, c.loop-j-test.true, c.width-j-end.ensures.width, c.width-j-end.ensures.sized c.args.index c.requires.within) in
    omega (arith, many-few 4294967294 _ _ _ _ c.loop-j.invariant.fed.changed here c.requires.few)

pub loop-j-preserved : goal.loop-j-preserved
loop-j-preserved c =
    let here : c.loop-j.j < length (states_in c.args.states.now c.args.index) = omega (arith, c.loop-j-test.true, c.width-j-end.ensures.width, c.width-j-end.ensures.sized c.args.index c.requires.within) in
    let j = c.loop-j.j in
    let i = c.args.index in
    let now : ManyStates = c.loop-j.states in
    let inputs = (row_at c.args.rows.now c.args.row).inputs in
    let fed : c.lend_value.new.states ≡ with_state_of i j (after_value c.args.place (value_at inputs j) (state_of now i j)) now =
    c.lend_value.ensures.states ∙ ap (λ (v : AnyValue). with_state_of i j (after_value c.args.place v (state_of now i j)) now) c.input-value.ensures in
    let inv = c.loop-j.invariant in
    let within : j < length (states_in now i) = changed-long _ _ _ _ inv.fed.changed here in
    let list : states_in c.lend_value.new.states i ≡ set (states_in now i) j (after_value c.args.place (value_at inputs j) (state_of now i j)) = changed-here _ _ _ _ inv.fed.changed c.lend_value.new.states _ c.requires.within fed in
    record {
      fed = many-next _ _ _ _ _ _ inv.fed c.lend_value.new.states c.requires.within here fed;
      copies = rw list (texts-next c.args.place inputs (states_in now i) j no_state (after_value c.args.place (value_at inputs j) (state_of now i j)) c.loop-j.copies.items c.lend_value.new.copies.items within inv.copies (rw c.input-value.ensures at c.lend_value.ensures.copies));
    }

pub returns : goal.returns
returns c = many-end _ _ _ _ _ _ c.loop-j.invariant.fed (omega (arith, c.loop-j-test.false, c.width-j-end.ensures.width, c.width-j-end.ensures.sized c.args.index c.requires.within))
