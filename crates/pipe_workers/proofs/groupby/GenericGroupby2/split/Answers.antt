use Rattle.std.proofs.Common.{◌∙◌, ◌≡◌, ap, length}
use Rattle.pipe_tables.specs.Buffers.{no_rows}
use Rattle.pipe_tables.specs.LocalTable.{Local}
use Rattle.pipe_workers.specs.Workers.{WorkerSeen}
use Rattle.pipe_workers.proofs.Beginning.{ready-new}
use Rattle.pipe_workers.proofs.groupby.GenericGroupby2.split.Goals as goal

pub returns-clause-ready : goal.returns-clause-ready
returns-clause-ready g c =
    let made = c.in-Ok.ensures in
    let same : c.self.inside.table ≡ c.args.self.now.table = ap (λ (w : WorkerSeen). w.table) c.self.view_is in
    ready-new g.R.Naming.run c.in-Ok.table c.args.shares c.workers-workers.ensures.takes_turns
    (record {
      shape = made.shape ∙ ap (λ (t : Local). t.table.shape) same ∙ c.requires.shape;
      limit = made.limit ∙ ap (λ (t : Local). t.table.limit) same ∙ c.requires.limit;
      groups = made.groups;
      size = made.size ∙ ap (λ (t : Local). t.buffers.size) same ∙ c.requires.size;
      rows = made.rows ∙ ap (λ (t : Local). no_rows (length t.buffers.rows)) same ∙ ap no_rows c.requires.buffers;
      overflowed = made.overflowed;
    })
    c.requires.unused
