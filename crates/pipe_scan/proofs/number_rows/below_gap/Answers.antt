use Rattle.pipe_scan.proofs.NumberBits.{below-all, below-some}
use Rattle.pipe_scan.proofs.number_rows.below_gap.Goals as goal

pub returns-then-gaps-eq0 : goal.returns-then-gaps-eq0
returns-then-gaps-eq0 c = below-all c.args.bits c.ranges.bits.fits c.if-gaps-eq0.true

pub returns : goal.returns
returns c = below-some c.args.bits c.ranges.bits.fits c.if-gaps-eq0.false
