use Rattle.std.proofs.Common.{rules, ◌≡◌, refl, Some, true, codes, map, [], List}
use Rattle.serde_json.specs.Find.{get}
use Rattle.serde_json.specs.View.{view}
use Rattle.pipe_model.specs.Expr.{Expr}
use Rattle.pipe_exprs.specs.Trees.{tree}
use Rattle.pipe_query.specs.Added.{AreAdded}
use Rattle.pipe_query.specs.QueryJson.{has_query_members, json_exprs, order_of, schema_of, slice_of}
use Rattle.pipe_query.proofs.QueryFacts.{first_list, flat_lists, nodes_there, second_list}
use Rattle.pipe_query.proofs.query_json.query_of.Goals as goal

pub returns-clause-written : goal.returns-clause-written
returns-clause-written c =
    let first : AreAdded (json_exprs (get (codes "keys") (view c.args.json.now))) [] c.add_member.new.arena (Some c.in-Some-2.keys.items) = search rules in
    let second : AreAdded (json_exprs (get (codes "aggs") (view c.args.json.now))) c.add_member.new.arena c.add_member-2.new.arena (Some c.in-Some-3.aggs.items) = search rules in
    let members : has_query_members (view c.args.json.now) ≡ true = search rules in
    let schema : schema_of (get (codes "schema") (view c.args.json.now)) ≡ Some c.in-Some.schema = search rules in
    let slice : slice_of (get (codes "slice") (view c.args.json.now)) ≡ Some c.in-Some-slice.slice = search rules in
    let order : order_of (get (codes "maintain_order") (view c.args.json.now)) ≡ Some c.in-Some-order.maintain_order = search rules in
    let keys = first_list _ _ _ _ _ _ first second in
    let aggs = second_list _ _ _ _ second in
    rw (members, schema, keys, aggs, slice, order) refl

pub returns-clause-flat : goal.returns-clause-flat
returns-clause-flat c =
    let first : AreAdded (json_exprs (get (codes "keys") (view c.args.json.now))) [] c.add_member.new.arena (Some c.in-Some-2.keys.items) = search rules in
    let second : AreAdded (json_exprs (get (codes "aggs") (view c.args.json.now))) c.add_member.new.arena c.add_member-2.new.arena (Some c.in-Some-3.aggs.items) = search rules in
    let keys : List Expr = map (tree c.add_member-2.new.arena) c.in-Some-2.keys.items in
    let aggs : List Expr = map (tree c.add_member-2.new.arena) c.in-Some-3.aggs.items in
    let lists = flat_lists keys aggs _ _ _ _ (rw (first_list _ _ _ _ _ _ first second) at first) (rw (second_list _ _ _ _ second) at second) in
    record { arena = lists.0; keys = lists.1; aggs = lists.2 }

pub returns-clause-nodes : goal.returns-clause-nodes
returns-clause-nodes c =
    let first : AreAdded (json_exprs (get (codes "keys") (view c.args.json.now))) [] c.add_member.new.arena (Some c.in-Some-2.keys.items) = search rules in
    let second : AreAdded (json_exprs (get (codes "aggs") (view c.args.json.now))) c.add_member.new.arena c.add_member-2.new.arena (Some c.in-Some-3.aggs.items) = search rules in
    let keys : List Expr = map (tree c.add_member-2.new.arena) c.in-Some-2.keys.items in
    let aggs : List Expr = map (tree c.add_member-2.new.arena) c.in-Some-3.aggs.items in
    nodes_there keys aggs _ _ _ _ (rw (first_list _ _ _ _ _ _ first second) at first) (rw (second_list _ _ _ _ second) at second)
