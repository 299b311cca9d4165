use Rattle.std.proofs.Common.{true, arith, ℕ, subst, ◌≡◌, ◌<◌, ◌+◌, ◌-◌, ◌^◌, ◌∷◌, List, length, drop}
use Rattle.pipe_columns.specs.declared.any_value.AnyValue.{AnyValue}
use Rattle.pipe_columns.specs.Frame.{value_at}
use Rattle.pipe_running.specs.declared.function.AggregateFunction.{AggregateFunction}
use Rattle.pipe_running.specs.States.{takes}
use Rattle.pipe_inputs.specs.ChunkRows.{row_at}
use Rattle.test_plain.proofs.HoldFacts.{left_at, seen-at, takes-at}
use Rattle.test_plain.proofs.groups.Group.feed.Goals as goal

pub feed_state-requires-clause-few : goal.feed_state-requires-clause-few
feed_state-requires-clause-few c =
    let state : AggregateFunction = c.index_mut.result.now in
    let before : List AggregateFunction = c.args.self.now.states.items in
    let states : List AggregateFunction = c.loop-j.self.states.items in
    let within : c.loop-j.j < length before = omega (arith, c.loop-j-test.true, c.len-j-end.ensures) in
    let left : drop c.loop-j.j before ≡ state ∷ drop (c.loop-j.j + 1) states = left_at before states c.loop-j.j state c.loop-j.invariant.left within c.index_mut.ensures.value in
    seen-at (2 ^ 32 - 2) state before (drop (c.loop-j.j + 1) states) c.loop-j.j left c.requires.few

pub feed_state-requires-clause-taken : goal.feed_state-requires-clause-taken
feed_state-requires-clause-taken c =
    let state : AggregateFunction = c.index_mut.result.now in
    let before : List AggregateFunction = c.args.self.now.states.items in
    let states : List AggregateFunction = c.loop-j.self.states.items in
    let inputs : List AnyValue = (row_at c.args.rows.now c.args.row).inputs in
    let within : c.loop-j.j < length before = omega (arith, c.loop-j-test.true, c.len-j-end.ensures) in
    let left : drop c.loop-j.j before ≡ state ∷ drop (c.loop-j.j + 1) states = left_at before states c.loop-j.j state c.loop-j.invariant.left within c.index_mut.ensures.value in
    let there : takes state (value_at inputs (0 + c.loop-j.j)) ≡ true = takes-at 0 c.loop-j.j state before (drop (c.loop-j.j + 1) states) inputs left c.requires.taken in
    let T : ℕ → Type 0 = λ k. takes state (value_at inputs k) ≡ true in
    subst T (omega arith) there
