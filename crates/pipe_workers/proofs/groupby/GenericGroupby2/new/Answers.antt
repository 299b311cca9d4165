use Rattle.std.proofs.Common.{◌∙◌, sym, ap}
use Rattle.pipe_plan.specs.declared.limits.Limits.{Limits}
use Rattle.pipe_tables.specs.Buffers.{no_rows}
use Rattle.std.proofs.Common.{Some}
use Rattle.pipe_model.specs.Query.{QueryTree}
use Rattle.pipe_groups.specs.Shape.{shape_of}
use Rattle.pipe_workers.proofs.Beginning.{ready-new}
use Rattle.pipe_workers.proofs.groupby.GenericGroupby2.new.Goals as goal

pub returns-clause-ready : goal.returns-clause-ready
returns-clause-ready g c =
    let made = c.in-Ok.ensures in
    ready-new g.R.Naming.run c.in-Ok.table c.args.shares c.requires.run
    (record {
      shape = made.shape ∙ ap (λ (q : QueryTree). shape_of q) (sym c.requires.query);
      limit = made.limit ∙ ap (λ (l : Limits). Some l.spill_size) (sym c.requires.limits);
      groups = made.groups;
      size = made.size ∙ ap (λ (l : Limits). l.buffer_size) (sym c.requires.limits);
      rows = made.rows ∙ ap (λ (l : Limits). no_rows l.partitions) (sym c.requires.limits);
      overflowed = made.overflowed;
    })
    c.requires.unused
