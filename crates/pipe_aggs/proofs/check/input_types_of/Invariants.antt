use Rattle.std.proofs.Common.{◌≡◌, take, map}
use Rattle.pipe_model.specs.Output.{input_type}
use Rattle.pipe_model.specs.WrittenTree.{agg_tree}
use Rattle.pipe_exprs.specs.Trees.{tree}
use Rattle.pipe_aggs.proofs.check.input_types_of.Given as goal

-- the types of what the aggregates so far are fed
abbrev pub invariant-loop-agg : goal.invariant-loop-agg
invariant-loop-agg l = l.types.items
    ≡ map (λ n. input_type l.known.fields (agg_tree (tree l.known.exprs n)).input) (take l.agg-index l.query.aggs.items)
