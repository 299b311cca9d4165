use Rattle.std.proofs.Common.{◌≡◌, rules, arith, Some, None, length, sym, ◌≤◌}
use Rattle.serde_json.specs.View.{view}
use Rattle.pipe_query.specs.QueryJson.{json_field}
use Rattle.pipe_query.proofs.FieldFacts.{fields_all, fields_more, fields_refused}
use Rattle.pipe_query.proofs.query_json.fields.Goals as goal

pub returns-in-None : goal.returns-in-None
returns-in-None c =
    let none : json_field (view c.value-item.result) ≡ None = search rules in
    sym (fields_refused c.args.list.now c.loop-value.value-index c.value-item.result c.loop-value.fields.items c.loop-value.invariant c.loop-value-test.true c.value-item.is none)

pub loop-value-preserved : goal.loop-value-preserved
loop-value-preserved c =
    let one : json_field (view c.value-item.result) ≡ Some c.in-Some.field = search rules in
    fields_more c.args.list.now c.loop-value.value-index c.value-item.result c.in-Some.field c.loop-value.fields.items _
    c.loop-value.invariant c.loop-value-test.true c.value-item.is one c.in_ok-push-in-Some.ensures.items

pub returns : goal.returns
returns c =
    let past : length c.args.list.now ≤ c.loop-value.value-index = omega arith in
    sym (fields_all c.args.list.now c.loop-value.value-index c.loop-value.fields.items c.loop-value.invariant past)
