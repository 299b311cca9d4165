use Rattle.std.proofs.Common.{◌∙◌, ap, sym, subst, arith}
use Rattle.std.proofs.lemmas.Option.{slice_get_within}
use Rattle.std.proofs.lemmas.Result.{on_ok_weaker}
use Rattle.pipe_plan.specs.declared.event.SpillAction.{SpillAction}
use Rattle.pipe_workers.specs.Steps.{after_action, IsNextPick}
use Rattle.pipe_workers.proofs.TurnEnds.{pick-is-next, pick-ends, turn-ends-empty, turn-ends-picked}
use Rattle.pipe_workers.proofs.turn.take_turn.Goals as goal

pub returns-then-height-eq0-clause-ok : goal.returns-then-height-eq0-clause-ok
returns-then-height-eq0-clause-ok g c =
    turn-ends-empty g.R.Naming.run c.args.shares.now.worker c.args.position c.args.chunk.now c.args.table.now c.args.shares.now c.query-query.ensures.takes_turns c.requires.turn
    (omega (arith, c.if-height-eq0.true, c.height.ensures.height)) c.worker-worker.ensures.shares

pub pick-requires-clause-next : goal.pick-requires-clause-next
pick-requires-clause-next g c =
    let next = pick-is-next g.R.Naming.run c.args.shares.now.worker c.args.position c.args.chunk.now c.take_rows.new.table c.take_rows.new.shares c.query-query.ensures.takes_turns c.requires.turn.at c.requires.turn.turn
    (omega (arith, c.if-height-eq0.false, c.height.ensures.height)) c.in-Ok.ensures.ok in
    subst (λ (a : SpillAction). IsNextPick g.R.Naming.run a c.take_rows.new.shares) (sym c.requires.action) next

pub returns-clause-err : goal.returns-clause-err
returns-clause-err g c =
    pick-ends g.R.Naming.run c.args.shares.now.worker c.args.position c.take_rows.new.table c.take_rows.new.shares c.pick.new.shares c.query-query.ensures.takes_turns
    (slice_get_within g.R.Naming.run.chunks c.args.position c.args.chunk.now c.requires.turn.at) c.requires.turn.turn c.in-Ok.ensures.ok c.pick.ensures.worker
    c.pick.result c.pick.ensures.events c.pick.ensures.faults c.pick.ensures.partition

pub returns-clause-ok : goal.returns-clause-ok
returns-clause-ok g c = on_ok_weaker c.pick.result
    (λ is. turn-ends-picked g.R.Naming.run c.args.shares.now.worker c.args.position c.args.chunk.now c.take_rows.new.table c.take_rows.new.shares c.pick.new.shares c.query-query.ensures.takes_turns c.requires.turn.at c.requires.turn.turn
    (omega (arith, c.if-height-eq0.false, c.height.ensures.height)) c.in-Ok.ensures.ok c.worker-worker-2.ensures.shares
    (is ∙ ap (λ (a : SpillAction). after_action g.R.Naming.run.limits.partitions a c.take_rows.new.shares) c.requires.action))
    c.pick.ensures.ok
