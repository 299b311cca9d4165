use Rattle.std.proofs.Common.{◌∙◌, ap, sym}
use Rattle.pipe_exprs.specs.Nodes.{tree_if}
use Rattle.pipe_exprs.specs.Trees.{trees}
use Rattle.pipe_exprs.proofs.NameFacts.{tree_found}
use Rattle.pipe_aggs.proofs.known.Known.expr.Goals as goal

pub returns-clause-tree : goal.returns-clause-tree
returns-clause-tree c =
    rw (← c.self.view_is) (ap (tree_if (trees c.self.inside.arena.now)) c.find.ensures.found
    ∙ sym (tree_found c.self.inside.arena.now c.args.node c.find.ensures.earlier))
