use Rattle.std.proofs.Common.{◌≡◌}
use Rattle.pipe_exprs.specs.ExprFacts.{expr_facts}
use Rattle.pipe_exprs.proofs.PassFacts.{known_more}
use Rattle.pipe_exprs.proofs.types.node_facts.Goals as goal

pub loop-node-preserved : goal.loop-node-preserved
loop-node-preserved c =
    let more = known_more c.args.fields.now c.args.arena.now c.loop-node.node c.get.result.now
    c.loop-node.facts.items c.get.ensures.some c.loop-node.invariant in
    let next : c.expr_facts-next.result ≡ expr_facts c.args.fields.now c.loop-node.facts.items c.get.result.now =
    rw (c.deref.ensures.value) at c.expr_facts-next.ensures in
    rw (c.in_ok-push.ensures.items, next) more
