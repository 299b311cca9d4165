use Rattle.pipe_scan.proofs.NumberBits.{no_long}
use Rattle.pipe_scan.proofs.number_rows.long_runs.Goals as goal

pub returns : goal.returns
returns c = no_long c.args.digits
