use Rattle.std.proofs.Common.{List, subst, sym}
use Rattle.pipe_columns.specs.declared.any_value.AnyValue.{AnyValue}
use Rattle.pipe_running.specs.declared.function.AggregateFunction.{AggregateFunction}
use Rattle.pipe_inputs.specs.ChunkRows.{row_at}
use Rattle.test_plain.specs.Running.{starts}
use Rattle.pipe_running.specs.GroupStates.{StatesSeen, TakesFrom}
use Rattle.test_plain.proofs.HoldFacts.{hold-seen, hold-takes, starts-hold}
use Rattle.test_plain.proofs.groups.new_group.Goals as goal

pub feed-requires-clause-few : goal.feed-requires-clause-few
feed-requires-clause-few c =
    let fs : List AggregateFunction = c.args.prototypes.now in
    let S : List AggregateFunction → Type 0 = λ ss. StatesSeen _ ss in
    subst S (sym c.in_ok-states.ensures) (hold-seen _ fs (starts fs).states (starts-hold _ fs))

pub feed-requires-clause-taken : goal.feed-requires-clause-taken
feed-requires-clause-taken c =
    let fs : List AggregateFunction = c.args.prototypes.now in
    let inputs : List AnyValue = (row_at c.args.rows.now c.args.row).inputs in
    let S : List AggregateFunction → Type 0 = λ ss. TakesFrom 0 ss inputs in
    (subst S (sym c.in_ok-states.ensures) (hold-takes 0 0 inputs fs (starts fs).states (starts-hold 0 fs) c.requires.taken))
