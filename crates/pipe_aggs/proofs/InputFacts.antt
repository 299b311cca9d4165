-- What aggregates are fed, and their running aggregates, node by node.
use Rattle.std.proofs.Common.{◌≡◌, ◌∙◌, map, ap, sym}
use Rattle.pipe_aggs.specs.declared.query.Query.{Query}
use Rattle.pipe_aggs.specs.HashAggs.{function_for, prototypes}
use Rattle.pipe_aggs.specs.KnownArena.{KnownArena}
use Rattle.pipe_model.specs.Output.{input_type}
use Rattle.pipe_model.specs.Query.{AggTree}
use Rattle.pipe_model.specs.WrittenTree.{agg_tree}
use Rattle.pipe_aggs.specs.QueryTrees.{query_tree}
use Rattle.pipe_exprs.specs.Trees.{tree}
use Rattle.pipe_aggs.proofs.OutputFacts.{map-map}

-- what is read off each aggregate is read off each node
nodes_are : {X : Type 0} (q : Query) (f : AggTree → X)
    → map (λ n. f (agg_tree (tree q.arena n))) q.aggs.items ≡ map f (query_tree q).aggs
nodes_are q f =
    let inner = map-map agg_tree (tree q.arena) q.aggs.items in
    let outer = map-map f (λ n. agg_tree (tree q.arena n)) q.aggs.items in
    sym (ap (λ aggs. map f aggs) inner ∙ outer)

pub inputs_are : (q : Query) (k : KnownArena) → k ≡ record { exprs = q.arena; fields = q.schema }
    → map (λ n. (agg_tree (tree k.exprs n)).input) q.aggs.items ≡ map (λ a. a.input) (query_tree q).aggs
inputs_are q k same = rw same (nodes_are q (λ a. a.input))

pub prototypes_are : (q : Query) (k : KnownArena) → k ≡ record { exprs = q.arena; fields = q.schema }
    → map (λ n. function_for (agg_tree (tree k.exprs n)).kind (input_type k.fields (agg_tree (tree k.exprs n)).input)) q.aggs.items
    ≡ prototypes (query_tree q)
prototypes_are q k same = rw same (nodes_are q (λ a. function_for a.kind (input_type q.schema a.input)))
