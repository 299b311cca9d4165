use Rattle.std.proofs.Common.{◌≡◌, ◌∙◌, sym, ap, subst, refl, true}
use Rattle.pipe_workers.specs.Steps.{IsClosing}
use Rattle.pipe_workers.specs.Workers.{WorkerSeen}
use Rattle.pipe_workers.proofs.Closings.{closed-worker, closing-begins}
use Rattle.pipe_workers.proofs.groupby.GenericGroupby2.close.Goals as goal

pub send_rests-requires-clause-closing : goal.send_rests-requires-clause-closing
send_rests-requires-clause-closing g c =
    subst (λ (x : WorkerSeen). IsClosing g.R.Naming.run x.shares.worker 0 x.table x.shares) (sym c.self.view_is)
    (closing-begins g.R.Naming.run c.args.self.now.shares.worker c.args.self.now c.query-query.ensures.takes_turns c.requires.ready)

pub returns-in-Ok-clause-closed : goal.returns-in-Ok-clause-closed
returns-in-Ok-clause-closed g c =
    let x : WorkerSeen = record { table = c.self.inside.table; shares = c.self.inside.shares; turns = c.self.inside.turns; closed = c.self.inside.closed; stopped = c.self.inside.stopped } in
    let y : WorkerSeen = record { table = c.send_rests.new.table; shares = c.send_rests.new.shares; turns = c.self.inside.turns; closed = true; stopped = c.self.inside.stopped } in
    let same : x ≡ c.args.self.now = c.self.view_is in
    closed-worker g.R.Naming.run c.args.self.now.shares.worker c.args.self.now y c.requires.ready
    (c.in-Ok.ensures.table ∙ ap (λ (v : WorkerSeen). v.table.table) same) refl (ap (λ (v : WorkerSeen). v.stopped) same)
    (subst (λ (v : WorkerSeen). IsClosing g.R.Naming.run v.shares.worker g.R.Naming.run.limits.partitions y.table y.shares) same c.in-Ok.ensures.ok)
