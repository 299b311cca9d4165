use Rattle.lavzimo_rows.proofs.MeanLaws.{nearest, turned_mean}
use Rattle.lavzimo_rows.proofs.laws.means_are_nearest.Goals as goal

pub returns-clause-nearest : goal.returns-clause-nearest
returns-clause-nearest c = nearest

pub returns-clause-turned : goal.returns-clause-turned
returns-clause-turned c = turned_mean
