-- One more row waits.
use Rattle.std.proofs.Common.{rules}
use Rattle.pipe_waiting.proofs.ReadBack.{pushed_if}
use Rattle.pipe_waiting.proofs.waiting_rows.WaitingRows.push.Goals as goal

pub returns-else-is_err-clause-pushed : goal.returns-else-is_err-clause-pushed
returns-else-is_err-clause-pushed c =
    pushed_if c.append_row-appended.result c.args.types.now c.args.row.now c.args.self.now _
    c.append_row-appended.ensures.can (search rules) (search rules)
