use Rattle.std.proofs.Common.{◌≡◌, ◌∙◌, List, [], Option, Some, None, map, sym, ap, subst}
use Rattle.std.specs.Prelude.{unwrap_or}
use Rattle.pipe_exprs.specs.Trees.{tree}
use Rattle.pipe_exprs.specs.declared.expression.AExpr.{AExpr}
use Rattle.pipe_exprs.specs.declared.expression.Node.{Node}
use Rattle.pipe_model.specs.Expr.{Expr}
use Rattle.pipe_model.specs.WrittenTree.{written_tree}
use Rattle.pipe_query.specs.Added.{AreAdded}
use Rattle.pipe_query.proofs.QueryFacts.{first_list, nodes_there, second_list}
use Rattle.lavzimo_words.specs.AskedQuery.{agg_expr, aggs_in, key_expr, keys_in, keys_of, named_fields}
use Rattle.lavzimo_words.specs.declared.asked_column.AskedColumn.{AskedColumn}
use Rattle.lavzimo_words.specs.Asked.{columns_seen}
use Rattle.lavzimo_words.proofs.AskedLaws.{made-faultless}
use Rattle.lavzimo_words.proofs.query.query_of.Goals as goal

-- the keys and the aggregates of columns
abbrev keys_for : List AskedColumn → List Expr
keys_for cs = keys_of (map key_expr (keys_in cs))

abbrev aggs_for : List AskedColumn → List Expr
aggs_for cs = map agg_expr (aggs_in cs)

-- what was added of columns that are lent, to an arena without expressions
keys-added : (cs ds : List AskedColumn) (old mid : List AExpr) (ns : List Node) → cs ≡ ds → old ≡ [] → AreAdded (Some (keys_for cs)) old mid (Some ns) → AreAdded (Some (keys_for ds)) [] mid (Some ns)
keys-added cs ds old mid ns same none h =
    subst (λ (es : List AskedColumn). AreAdded (Some (keys_for es)) [] mid (Some ns)) same (subst (λ (x : List AExpr). AreAdded (Some (keys_for cs)) x mid (Some ns)) none h)

aggs-added : (cs ds : List AskedColumn) (mid last : List AExpr) (ns : List Node) → cs ≡ ds → AreAdded (Some (aggs_for cs)) mid last (Some ns) → AreAdded (Some (aggs_for ds)) mid last (Some ns)
aggs-added cs ds mid last ns same h = subst (λ (es : List AskedColumn). AreAdded (Some (aggs_for es)) mid last (Some ns)) same h

some-same : (xs ys : List Expr) → Some xs ≡ Some ys → xs ≡ ys
some-same xs ys h = ap (λ (o : Option (List Expr)). unwrap_or o []) h

pub returns-clause-written : goal.returns-clause-written
returns-clause-written c =
    let cs : List AskedColumn = c.args.asked.now.columns.items in
    let first = keys-added c.deref-2.result.now cs c.new-arena.result c.add_keys.new.arena c.in_ok-keys.keys.items c.deref-2.ensures.value c.new-arena.ensures c.in_ok-keys.ensures in
    let second = aggs-added c.deref-3.result.now cs c.add_keys.new.arena c.add_aggs.new.arena c.in_ok-aggs.aggs.items c.deref-3.ensures.value c.in_ok-aggs.ensures in
    let fields : c.new-schema.result ≡ named_fields cs = c.new-schema.ensures ∙ c.in_ok-named_fields.ensures ∙ ap named_fields c.deref.ensures.value in
    let keys : map (tree c.add_aggs.new.arena) c.in_ok-keys.keys.items ≡ keys_for cs = sym (some-same (keys_for cs) (map (tree c.add_aggs.new.arena) c.in_ok-keys.keys.items) (first_list (Some (keys_for cs)) (Some (aggs_for cs)) c.add_keys.new.arena c.add_aggs.new.arena c.in_ok-keys.keys.items c.in_ok-aggs.aggs.items first second)) in
    let aggs : map (tree c.add_aggs.new.arena) c.in_ok-aggs.aggs.items ≡ aggs_for cs = sym (some-same (aggs_for cs) (map (tree c.add_aggs.new.arena) c.in_ok-aggs.aggs.items) (second_list (Some (aggs_for cs)) c.add_keys.new.arena c.add_aggs.new.arena c.in_ok-aggs.aggs.items second)) in
    λ i. record { schema = fields i; keys = keys i; aggs = aggs i; slice = None; keeps_order = c.is_first.ensures i }

pub returns-clause-query : goal.returns-clause-query
returns-clause-query c =
    let cs : List AskedColumn = c.args.asked.now.columns.items in
    let first = keys-added c.deref-2.result.now cs c.new-arena.result c.add_keys.new.arena c.in_ok-keys.keys.items c.deref-2.ensures.value c.new-arena.ensures c.in_ok-keys.ensures in
    let second = aggs-added c.deref-3.result.now cs c.add_keys.new.arena c.add_aggs.new.arena c.in_ok-aggs.aggs.items c.deref-3.ensures.value c.in_ok-aggs.ensures in
    let fields : c.new-schema.result ≡ named_fields cs = c.new-schema.ensures ∙ c.in_ok-named_fields.ensures ∙ ap named_fields c.deref.ensures.value in
    let keys : map (tree c.add_aggs.new.arena) c.in_ok-keys.keys.items ≡ keys_for cs = sym (some-same (keys_for cs) (map (tree c.add_aggs.new.arena) c.in_ok-keys.keys.items) (first_list (Some (keys_for cs)) (Some (aggs_for cs)) c.add_keys.new.arena c.add_aggs.new.arena c.in_ok-keys.keys.items c.in_ok-aggs.aggs.items first second)) in
    let aggs : map (tree c.add_aggs.new.arena) c.in_ok-aggs.aggs.items ≡ aggs_for cs = sym (some-same (aggs_for cs) (map (tree c.add_aggs.new.arena) c.in_ok-aggs.aggs.items) (second_list (Some (aggs_for cs)) c.add_keys.new.arena c.add_aggs.new.arena c.in_ok-aggs.aggs.items second)) in
    λ i. written_tree (record { schema = fields i; keys = keys i; aggs = aggs i; slice = None; keeps_order = c.is_first.ensures i })

pub returns-clause-nodes : goal.returns-clause-nodes
returns-clause-nodes c =
    let cs : List AskedColumn = c.args.asked.now.columns.items in
    let first = keys-added c.deref-2.result.now cs c.new-arena.result c.add_keys.new.arena c.in_ok-keys.keys.items c.deref-2.ensures.value c.new-arena.ensures c.in_ok-keys.ensures in
    let second = aggs-added c.deref-3.result.now cs c.add_keys.new.arena c.add_aggs.new.arena c.in_ok-aggs.aggs.items c.deref-3.ensures.value c.in_ok-aggs.ensures in
    nodes_there (keys_for cs) (aggs_for cs) c.add_keys.new.arena c.add_aggs.new.arena c.in_ok-keys.keys.items c.in_ok-aggs.aggs.items first second

pub returns-clause-faultless : goal.returns-clause-faultless
returns-clause-faultless c = made-faultless (columns_seen c.args.asked.now) _ _ (returns-clause-written c) (returns-clause-nodes c)
