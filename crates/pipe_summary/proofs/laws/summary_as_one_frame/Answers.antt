use Rattle.std.proofs.Common.{◌∷◌, arith}
use Rattle.pipe_summary.proofs.laws.summary_as_one_frame.Goals as goal
use Rattle.pipe_summary.proofs.SumFacts.{sums-merged, sums-none}

pub returns-clause-none : goal.returns-clause-none
returns-clause-none c = sums-none

pub returns-clause-one : goal.returns-clause-one
returns-clause-one c = λ q s states chunks turn sums. sums-merged q (s ∷ states) chunks turn sums (omega arith)
