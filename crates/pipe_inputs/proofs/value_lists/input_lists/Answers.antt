use Rattle.std.proofs.Common.{◌∙◌, ◌≤◌, arith, length}
use Rattle.std.proofs.lemmas.List.{take_all}
use Rattle.pipe_aggs.specs.declared.hash_agg.AggInput.TheVariants as input
use Rattle.pipe_aggs.specs.declared.query.Query.{Query}
use Rattle.pipe_aggs.specs.QueryTrees.{query_tree}
use Rattle.pipe_inputs.proofs.ListFacts.{input-fed, inputs_are}
use Rattle.pipe_inputs.proofs.value_lists.input_lists.Goals as goal

pub input_list-requires-clause-fed : goal.input_list-requires-clause-fed
input_list-requires-clause-fed c =
    let q : Query = c.args.query.now in
    rw (c.query.ensures.query, c.requires)
    (input-fed q.schema q.arena (query_tree q).aggs c.inputs-inputs.result.now c.loop-input.input-index (input.Expr (record { node = record { 0 = 0 } }))
    c.inputs-inputs.ensures.fed c.query.ensures.groupable.inputs c.loop-input-test.true)

pub returns : goal.returns
returns c =
    let q : Query = c.args.query.now in
    let end : length c.inputs-inputs.result.now ≤ c.loop-input.input-index = omega (arith, c.loop-input-test.false) in
    let all = take_all c.loop-input.input-index c.inputs-inputs.result.now end in
    rw all at c.loop-input.invariant ∙ inputs_are q.arena c.args.chunk.now.frame (query_tree q).aggs c.inputs-inputs.result.now c.inputs-inputs.ensures.fed
