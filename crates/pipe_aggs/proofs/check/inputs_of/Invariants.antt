use Rattle.std.proofs.Common.{◌≡◌, take, map}
use Rattle.std.specs.List.{All}
use Rattle.pipe_aggs.specs.HashAggs.{input_of, IsThere}
use Rattle.pipe_model.specs.WrittenTree.{agg_tree}
use Rattle.pipe_exprs.specs.Trees.{tree}
use Rattle.pipe_aggs.proofs.check.inputs_of.Given as goal

-- what the aggregates so far are fed
abbrev pub invariant-loop-agg : goal.invariant-loop-agg
invariant-loop-agg l = record {
  fed : map (input_of l.known.exprs) l.inputs.items
      ≡ map (λ n. (agg_tree (tree l.known.exprs n)).input) (take l.agg-index l.query.aggs.items);
  there : All (IsThere l.known.exprs) l.inputs.items;
}
