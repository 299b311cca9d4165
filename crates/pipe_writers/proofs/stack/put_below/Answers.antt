use Rattle.pipe_writers.proofs.RowFacts.{rows_below}
use Rattle.pipe_writers.proofs.stack.put_below.Goals as goal

pub returns-in-Some-clause-rows : goal.returns-in-Some-clause-rows
returns-in-Some-clause-rows c = rows_below _ c.in-Some.first c.args.frame c.in-Some.is c.requires c.recall_height.ensures
