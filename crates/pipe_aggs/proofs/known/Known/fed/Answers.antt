use Rattle.std.proofs.Common.{◌≡◌, ◌∙◌, ap}
use Rattle.std.specs.Prelude.{option_copied}
use Rattle.pipe_model.specs.Convertible.{unaliased}
use Rattle.pipe_model.specs.Expr.{name_of}
use Rattle.pipe_aggs.specs.KnownArena.{fed_by}
use Rattle.pipe_exprs.specs.Nodes.{tree_if}
use Rattle.pipe_model.specs.Output.{input_type}
use Rattle.pipe_model.specs.WrittenTree.{agg_named}
use Rattle.pipe_exprs.specs.Trees.{tree, trees}
use Rattle.pipe_aggs.proofs.KnownFacts.{fed_is}
use Rattle.pipe_aggs.proofs.known.Known.fed.Goals as goal

pub returns : goal.returns
returns c =
    let here : tree_if (trees c.args.self.now.exprs) (option_copied c.expr.result) ≡ unaliased (tree c.args.self.now.exprs c.args.node) =
    c.expr.ensures.tree ∙ c.unaliased.ensures in
    c.fed.ensures ∙ ap (λ known. fed_by known (option_copied c.expr.result)) c.all_facts.ensures
    ∙ fed_is c.args.self.now.fields (trees c.args.self.now.exprs) (name_of (tree c.args.self.now.exprs c.args.node)) (option_copied c.expr.result)
    ∙ ap (λ e. input_type c.args.self.now.fields (agg_named (name_of (tree c.args.self.now.exprs c.args.node)) e).input) here
