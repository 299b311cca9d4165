use Rattle.pipe_groups.proofs.FeedFacts.{few-counted, holds-counted, row-taken}
use Rattle.pipe_groups.proofs.GiveFacts.{can-give}
use Rattle.pipe_groups.proofs.laws.what_few_rows_allow.Goals as goal

pub returns-clause-counted : goal.returns-clause-counted
returns-clause-counted c = holds-counted

pub returns-clause-few : goal.returns-clause-few
returns-clause-few c = few-counted

pub returns-clause-taken : goal.returns-clause-taken
returns-clause-taken c = row-taken

pub returns-clause-given : goal.returns-clause-given
returns-clause-given c = can-give
