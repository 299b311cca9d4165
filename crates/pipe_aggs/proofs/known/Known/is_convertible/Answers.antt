use Rattle.std.proofs.Common.{◌≡◌, ◌∙◌, ap}
use Rattle.std.specs.Prelude.{option_copied}
use Rattle.pipe_model.specs.Convertible.{is_kept, unaliased}
use Rattle.pipe_aggs.specs.KnownArena.{kept_by}
use Rattle.pipe_exprs.specs.Nodes.{tree_if}
use Rattle.pipe_exprs.specs.Trees.{tree, trees}
use Rattle.pipe_aggs.proofs.KnownFacts.{kept_is}
use Rattle.pipe_aggs.proofs.known.Known.is_convertible.Goals as goal

pub returns : goal.returns
returns c =
    let here : tree_if (trees c.args.self.now.exprs) (option_copied c.expr.result) ≡ unaliased (tree c.args.self.now.exprs c.args.node) =
    c.expr.ensures.tree ∙ c.unaliased.ensures in
    c.is_kept.ensures ∙ ap (λ known. kept_by known (option_copied c.expr.result)) c.all_facts.ensures
    ∙ kept_is c.args.self.now.fields (trees c.args.self.now.exprs) (option_copied c.expr.result)
    ∙ ap (λ e. is_kept e c.args.self.now.fields) here
