use Rattle.pipe_running.proofs.MergeFacts.{stands-both}
use Rattle.pipe_running.proofs.StandFacts.{seen-short, stands-after, stands-fresh, stands-moved, stands-run}
use Rattle.pipe_running.proofs.laws.what_calls_keep.Goals as goal

pub returns-clause-fresh : goal.returns-clause-fresh
returns-clause-fresh c = stands-fresh

pub returns-clause-value : goal.returns-clause-value
returns-clause-value c = stands-after

pub returns-clause-run : goal.returns-clause-run
returns-clause-run c = stands-run

pub returns-clause-joined : goal.returns-clause-joined
returns-clause-joined c = stands-both

pub returns-clause-order : goal.returns-clause-order
returns-clause-order c = stands-moved

pub returns-clause-seen : goal.returns-clause-seen
returns-clause-seen c = seen-short
