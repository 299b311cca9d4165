use Rattle.pipe_summary.proofs.laws.frame_more_in_a_summary.Goals as goal
use Rattle.pipe_summary.proofs.SumFacts.{sums-more}

pub returns : goal.returns
returns c = sums-more
