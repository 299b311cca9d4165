use Rattle.pipe_plan.proofs.Counting.{whole-all}
use Rattle.pipe_plan.proofs.laws_whole.counts_make_plans_whole.Goals as goal

pub returns : goal.returns
returns c = whole-all
