use Rattle.std.proofs.Common.{rules, arith, ◌≡◌, ◌<◌, ◌≤◌, List, true, false, length, refl}
use Rattle.std.specs.Ordering.{is_lt}
use Rattle.std.proofs.lemmas.Bool.{false≢true}
use Rattle.pipe_model.specs.Answer.{tuple_cmp}
use Rattle.pipe_states.specs.declared.state_row.StateRow.{StateRow}
use Rattle.pipe_states.proofs.Ascent.{ascending, not_below, one_more}
use Rattle.pipe_states.proofs.fairness.do_keys_ascend.Goals as goal

pub returns-then-not-is_lt : goal.returns-then-not-is_lt
returns-then-not-is_lt c =
    let rows : List StateRow = c.args.rows.now in
    let r : StateRow = c.index-rows-i.result in
    let s : StateRow = c.index-rows-i-in-loop-i.result in
    let low : 1 ≤ c.loop-i.i = omega arith in
    let high : c.loop-i.i < length rows = omega (arith, c.loop-i-test.true) in
    let order : c.cmp-order.result ≡ tuple_cmp r.key s.key = search rules in
    let test : is_lt c.cmp-order.result ≡ false = search rules in (
      λ e. absurd (false≢true e),
      λ a. absurd (not_below rows c.loop-i.i r s low high c.index-rows-i.is c.index-rows-i-in-loop-i.is c.cmp-order.result order test a),
    )

pub loop-i-preserved : goal.loop-i-preserved
loop-i-preserved c =
    let rows : List StateRow = c.args.rows.now in
    let r : StateRow = c.index-rows-i.result in
    let s : StateRow = c.index-rows-i-in-loop-i.result in
    let low : 1 ≤ c.loop-i.i = omega arith in
    let high : c.loop-i.i < length rows = omega (arith, c.loop-i-test.true) in
    let order : c.cmp-order.result ≡ tuple_cmp r.key s.key = search rules in
    let test : is_lt c.cmp-order.result ≡ true = search rules in
    one_more rows c.loop-i.i r s low high c.index-rows-i.is c.index-rows-i-in-loop-i.is c.cmp-order.result order test c.loop-i.invariant

pub returns : goal.returns
returns c =
    let rows : List StateRow = c.args.rows.now in
    let long : length rows ≤ c.loop-i.i = omega (arith, c.loop-i-test.false) in
    (λ e. ascending rows c.loop-i.i long c.loop-i.invariant, λ a. refl)
