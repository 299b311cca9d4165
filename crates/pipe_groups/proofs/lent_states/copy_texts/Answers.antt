use Rattle.std.proofs.Common.{◌≡◌, ◌-◌, ◌<◌, length, false, arith}
use Rattle.pipe_columns.specs.Frame.{value_at}
use Rattle.pipe_inputs.specs.ChunkRows.{row_at}
use Rattle.pipe_kinds.specs.Columns.{no_state}
use Rattle.pipe_kinds.specs.ManyStates.{state_of, states_in}
use Rattle.pipe_running.specs.Lent.{keeps_text}
use Rattle.pipe_groups.proofs.TextFacts.{none-kept}
use Rattle.pipe_groups.proofs.lent_states.copy_texts.Goals as goal

pub returns-in_err-copy_text-clause-plain : goal.returns-in_err-copy_text-clause-plain
returns-in_err-copy_text-clause-plain c = λ none.
    let i = c.loop-j.j - 1 in
    let inputs = (row_at c.args.rows.now c.args.row).inputs in
    let within : i < length (states_in c.args.states.now c.args.index) = omega (arith, c.loop-j-test.true, c.loop-j.invariant.within) in
    let no : keeps_text c.args.place (value_at inputs i) (state_of c.args.states.now c.args.index i) ≡ false = none-kept c.args.place inputs (states_in c.args.states.now c.args.index) i no_state none within in
    absurd (let bad = c.in_err-copy_text.ensures.plain no in cc)
