use Rattle.std.proofs.Common.{◌∙◌, sym, ap}
use Rattle.std.specs.Prelude.{not}
use Rattle.lavzimo_words.specs.AskedQuery.{agg_expr}
use Rattle.lavzimo_words.specs.Roles.{is_key}
use Rattle.lavzimo_words.proofs.FlatMore.{chosen-more}
use Rattle.lavzimo_words.proofs.query.add_aggs.Goals as goal

pub loop-column-preserved : goal.loop-column-preserved
loop-column-preserved c =
    chosen-more agg_expr (λ c'. not (is_key c'.role)) c.args.columns.now c.loop-column.column-index c.column-item.result c.args.arena.now c.loop-column.arena c.add_agg.new.arena
    c.loop-column.nodes.items _ c.in_ok-node.node c.loop-column-test.true c.column-item.is (ap not (sym c.is_key.ensures ∙ c.if-is_key.false)) c.loop-column.invariant c.in_ok-node.ensures c.in_ok-push.ensures.items
