use Rattle.std.proofs.Common.{◌≡◌, rules, arith, Some, None, length, sym, ◌≤◌}
use Rattle.serde_json.specs.View.{view}
use Rattle.rollup_words.specs.Keys.{position_named}
use Rattle.rollup_words.proofs.KeyFacts.{positions_all, positions_more, positions_refused}
use Rattle.rollup_words.proofs.keys.positions_named.Goals as goal

pub returns-in-None : goal.returns-in-None
returns-in-None c =
    let none : position_named c.args.fields.now (view c.value-item.result) ≡ None = search rules in
    sym (positions_refused c.args.fields.now c.args.list.now c.loop-value.value-index c.value-item.result c.loop-value.positions.items c.loop-value.invariant c.loop-value-test.true c.value-item.is none)

pub loop-value-preserved : goal.loop-value-preserved
loop-value-preserved c =
    let one : position_named c.args.fields.now (view c.value-item.result) ≡ Some c.in-Some.position = search rules in
    positions_more c.args.fields.now c.args.list.now c.loop-value.value-index c.value-item.result c.in-Some.position c.loop-value.positions.items _
    c.loop-value.invariant c.loop-value-test.true c.value-item.is one c.in_ok-push-in-Some.ensures.items

pub returns : goal.returns
returns c =
    let past : length c.args.list.now ≤ c.loop-value.value-index = omega arith in
    sym (positions_all c.args.fields.now c.args.list.now c.loop-value.value-index c.loop-value.positions.items c.loop-value.invariant past)
