use Rattle.std.proofs.Common.{arith}
use Rattle.pipe_tables.proofs.ReserveFacts.{row-covered}
use Rattle.pipe_tables.proofs.reserve.cover_all.Goals as goal

pub loop-row-preserved : goal.loop-row-preserved
loop-row-preserved c =
    row-covered c.args.rows.now _ _ c.loop-row.row-index (omega arith) c.row-item.result c.row-item.is c.loop-row.invariant _
    (rw c.as_slice-key.ensures at c.cover-index.ensures.groups) (rw c.as_slice-key.ensures at c.cover-index.ensures.room)
