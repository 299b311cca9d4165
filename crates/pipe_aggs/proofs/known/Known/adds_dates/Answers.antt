use Rattle.std.proofs.Common.{◌≡◌, ◌∙◌, ap}
use Rattle.std.specs.Prelude.{option_copied}
use Rattle.pipe_model.specs.Convertible.{unaliased}
use Rattle.pipe_aggs.specs.Faults.{adds_dates}
use Rattle.pipe_aggs.specs.KnownArena.{adds_dates_by}
use Rattle.pipe_exprs.specs.Nodes.{tree_if}
use Rattle.pipe_exprs.specs.Trees.{tree, trees}
use Rattle.pipe_aggs.proofs.KnownFacts.{adds_dates_is}
use Rattle.pipe_aggs.proofs.known.Known.adds_dates.Goals as goal

pub returns : goal.returns
returns c =
    let here : tree_if (trees c.args.self.now.exprs) (option_copied c.expr.result) ≡ unaliased (tree c.args.self.now.exprs c.args.node) =
    c.expr.ensures.tree ∙ c.unaliased.ensures in
    c.adds_dates.ensures ∙ ap (λ known. adds_dates_by known (option_copied c.expr.result)) c.all_facts.ensures
    ∙ adds_dates_is c.args.self.now.fields (trees c.args.self.now.exprs) (option_copied c.expr.result)
    ∙ ap (λ e. adds_dates c.args.self.now.fields e) here
