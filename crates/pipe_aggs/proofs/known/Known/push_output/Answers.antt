use Rattle.std.proofs.Common.{◌∙◌, ◌++◌, ap}
use Rattle.std.specs.Prelude.{option_copied}
use Rattle.std.proofs.lemmas.Result.{on_ok_weaker}
use Rattle.pipe_exprs.specs.Trees.{tree, trees}
use Rattle.pipe_aggs.proofs.OutputFacts.{columns_are}
use Rattle.pipe_aggs.proofs.known.Known.push_output.Goals as goal

pub returns : goal.returns
returns c =
    let columns = columns_are c.args.self.now.fields (trees c.args.self.now.exprs) (tree c.args.self.now.exprs c.args.node)
    (option_copied c.expr-expr.result) c.name.result.now c.fed.result
    (c.expr-expr.ensures.tree ∙ c.unaliased.ensures) c.name.ensures c.fed.ensures in
    on_ok_weaker c.push_columns.result (λ is. is ∙ ap (λ cs. c.args.fields.now.items ++ cs) columns) c.push_columns.ensures
