use Rattle.std.proofs.Common.{◌∙◌, List, ap, set}
use Rattle.pipe_spill.specs.declared.spill_row.SpillRow.{SpillRow}
use Rattle.pipe_tables.specs.BufferLayout.{rows_of}
use Rattle.pipe_tables.proofs.BufferFacts.{rows_of-set}
use Rattle.pipe_tables.proofs.spill_partitions.take_at.Goals as goal

pub returns-clause-emptied : goal.returns-clause-emptied
returns-clause-emptied c =
    rows_of-set c.args.buffers.now.items c.args.partition c.replace.new.dest
    ∙ ap (λ (l : List SpillRow). set (rows_of c.args.buffers.now.items) c.args.partition l)
    (ap (λ v. v.items) c.replace.ensures.after ∙ c.room_for.ensures)
