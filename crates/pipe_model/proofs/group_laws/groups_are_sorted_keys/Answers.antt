use Rattle.pipe_model.proofs.GroupFacts.{groups-sole, groups-sorted}
use Rattle.pipe_model.proofs.group_laws.groups_are_sorted_keys.Goals as goal

pub returns-clause-are : goal.returns-clause-are
returns-clause-are c = groups-sorted

pub returns-clause-sole : goal.returns-clause-sole
returns-clause-sole c = groups-sole
