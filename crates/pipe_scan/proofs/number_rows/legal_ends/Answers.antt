use Rattle.pipe_scan.proofs.NumberBits.{legal-below}
use Rattle.pipe_scan.proofs.number_rows.legal_ends.Goals as goal

pub returns : goal.returns
returns c = legal-below c.args.digits c.args.ends c.args.signs c.below_gap.result (c.long_runs.ensures c.if-long_runs-ne0.false) c.below_gap.ensures
