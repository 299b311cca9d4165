-- Nothing waits, whatever types the table has.
use Rattle.pipe_local.proofs.worker_table.WorkerTable.split.Goals as goal

pub invariant_of-result : goal.invariant_of-result
invariant_of-result c = c.in_ok-buffers.ensures.held c.in_ok-table.table.shape.input_types
