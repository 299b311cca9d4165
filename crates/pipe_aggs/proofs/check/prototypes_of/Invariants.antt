use Rattle.std.proofs.Common.{◌≡◌, take, map}
use Rattle.pipe_aggs.specs.HashAggs.{function_for}
use Rattle.pipe_model.specs.Output.{input_type}
use Rattle.pipe_model.specs.WrittenTree.{agg_tree}
use Rattle.pipe_exprs.specs.Trees.{tree}
use Rattle.pipe_aggs.proofs.check.prototypes_of.Given as goal

-- the running aggregates so far
abbrev pub invariant-loop-agg : goal.invariant-loop-agg
invariant-loop-agg l = l.functions.items
    ≡ map (λ n. function_for (agg_tree (tree l.known.exprs n)).kind (input_type l.known.fields (agg_tree (tree l.known.exprs n)).input)) (take l.agg-index l.query.aggs.items)
