use Rattle.std.proofs.Common.{◌∙◌, sym}
use Rattle.lavzimo_words.specs.AskedQuery.{key_expr}
use Rattle.lavzimo_words.specs.Roles.{is_key}
use Rattle.lavzimo_words.proofs.FlatMore.{chosen-more}
use Rattle.lavzimo_words.proofs.query.add_key_columns.Goals as goal

pub loop-column-preserved : goal.loop-column-preserved
loop-column-preserved c =
    chosen-more key_expr (λ c'. is_key c'.role) c.args.columns.now c.loop-column.column-index c.column-item.result c.args.arena.now c.loop-column.arena c.add_key.new.arena
    c.loop-column.nodes.items _ c.in_ok-node.node c.loop-column-test.true c.column-item.is (sym c.is_key.ensures ∙ c.if-not-is_key.false) c.loop-column.invariant c.in_ok-node.ensures c.in_ok-push.ensures.items
