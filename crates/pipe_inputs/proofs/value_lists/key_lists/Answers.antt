use Rattle.std.proofs.Common.{◌∙◌, ◌≤◌, arith, List, length}
use Rattle.std.proofs.lemmas.Bool.{and_parts}
use Rattle.std.proofs.lemmas.List.{take_all}
use Rattle.pipe_exprs.specs.declared.expression.Node.{Node}
use Rattle.pipe_aggs.specs.declared.query.Query.{Query}
use Rattle.pipe_inputs.proofs.ListFacts.{key-valued, keys_are}
use Rattle.pipe_inputs.proofs.value_lists.key_lists.Goals as goal

pub values-requires-clause-row_wise : goal.values-requires-clause-row_wise
values-requires-clause-row_wise c =
    let q : Query = c.args.query.now in
    rw (c.deref-key-items.ensures.value, c.query-query.ensures.query)
    (and_parts _ _ (key-valued q c.loop-key.key-index (record { 0 = 0 }) c.query-query.ensures.groupable (rw (c.deref-key-items.ensures.value, c.query-query.ensures.query) at c.loop-key-test.true))).0

pub values-requires-clause-typed : goal.values-requires-clause-typed
values-requires-clause-typed c =
    let q : Query = c.args.query.now in
    rw (c.deref-key-items.ensures.value, c.query-query.ensures.query, c.requires)
    (and_parts _ _ (key-valued q c.loop-key.key-index (record { 0 = 0 }) c.query-query.ensures.groupable (rw (c.deref-key-items.ensures.value, c.query-query.ensures.query) at c.loop-key-test.true))).1

pub returns-clause-values : goal.returns-clause-values
returns-clause-values c =
    let q : Query = c.args.query.now in
    let keys : List Node = c.query-query.result.now.keys.items in
    let past : length c.deref-key-items.result.now ≤ c.loop-key.key-index = omega (arith, c.loop-key-test.false) in
    let end : length keys ≤ c.loop-key.key-index = rw c.deref-key-items.ensures.value at past in
    let all = take_all c.loop-key.key-index keys end in
    rw (all, c.query-query.ensures.query) at c.loop-key.invariant ∙ keys_are q c.args.chunk.now.frame
