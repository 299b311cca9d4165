use Rattle.std.proofs.Common.{rules, arith, Some, None, length, ◌≤◌}
use Rattle.serde_json.specs.View.{view}
use Rattle.pipe_query.specs.ExprJson.{expr_of}
use Rattle.pipe_query.specs.Added.{IsAdded}
use Rattle.pipe_query.proofs.ListFacts.{adding_all, adding_more, adding_none}
use Rattle.pipe_query.proofs.query_json.add_list.Goals as goal

pub returns-in-None : goal.returns-in-None
returns-in-None c =
    let none : IsAdded (expr_of (view c.value-item.result)) c.loop-value.arena c.add_expr.new.arena None = search rules in
    adding_none c.args.list.now c.loop-value.value-index c.value-item.result _ _ _ c.loop-value.nodes.items
    c.loop-value.invariant c.loop-value-test.true c.value-item.is none

pub loop-value-preserved : goal.loop-value-preserved
loop-value-preserved c =
    let added : IsAdded (expr_of (view c.value-item.result)) c.loop-value.arena c.add_expr.new.arena (Some c.in-Some.node) = search rules in
    adding_more c.args.list.now c.loop-value.value-index c.value-item.result c.in-Some.node _ _ _ c.loop-value.nodes.items _
    c.loop-value.invariant c.loop-value-test.true c.value-item.is added (c.in_ok-push-in-Some.ensures.items)

pub returns : goal.returns
returns c =
    let past : length c.args.list.now ≤ c.loop-value.value-index = omega arith in
    adding_all c.args.list.now c.loop-value.value-index _ _ c.loop-value.nodes.items c.loop-value.invariant past
