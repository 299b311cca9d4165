use Rattle.std.proofs.Common.{rules, ◌∙◌, ◌<◌, ◌++◌, ◌∷◌, [], length, get_or}
use Rattle.pipe_aggs.specs.QueryTrees.{query_tree}
use Rattle.pipe_columns.specs.declared.data_type.DataType.{DataType}
use Rattle.pipe_columns.specs.declared.data_type.DataType.TheVariants as dt
use Rattle.pipe_model.specs.Expr.{Expr}
use Rattle.pipe_model.specs.Query.{QueryTree}
use Rattle.pipe_model.specs.Typing.{known_type}
use Rattle.pipe_regroup.proofs.KeptFacts.{pick-more}
use Rattle.pipe_regroup.proofs.setup.kept_types.Goals as goal

pub loop-i-preserved : goal.loop-i-preserved
loop-i-preserved c =
    let q : QueryTree = query_tree c.args.query.now in
    let type : Expr → DataType = λ e. known_type e q.schema in
    let within : get_or c.args.keep.now c.loop-i.i 0 < length q.keys = search rules in
    c.in_ok-push.ensures.items
    ∙ (λ n. c.loop-i.invariant n ++ get_or (c.key_types-all.ensures n) (get_or c.args.keep.now c.loop-i.i 0) dt.Boolean ∷ [])
    ∙ pick-more type q.keys c.args.keep.now c.loop-i.i 0 dt.Boolean c.loop-i-test.true within
