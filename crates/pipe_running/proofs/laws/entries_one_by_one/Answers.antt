use Rattle.pipe_running.proofs.EntryFacts.{fits-given, given-after_entries}
use Rattle.pipe_running.proofs.laws.entries_one_by_one.Goals as goal

pub returns-clause-stands : goal.returns-clause-stands
returns-clause-stands c = given-after_entries

pub returns-clause-fits : goal.returns-clause-fits
returns-clause-fits c = fits-given
