use Rattle.summary_log.proofs.LogFacts.{cut-is, frames-longest, frames-once}
use Rattle.summary_log.proofs.laws.logs_are_read.Goals as goal

pub returns-clause-cut : goal.returns-clause-cut
returns-clause-cut c = cut-is

pub returns-clause-once : goal.returns-clause-once
returns-clause-once c = frames-once

pub returns-clause-longest : goal.returns-clause-longest
returns-clause-longest c = frames-longest
