use Rattle.std.proofs.Common.{refl}
use Rattle.pipe_regroup.proofs.CoverFacts.{none-yet}
use Rattle.pipe_regroup.proofs.coverage.Coverage.new.Goals as goal

pub returns-clause-none : goal.returns-clause-none
returns-clause-none c = record { overlap = none-yet c.new.result c.new.ensures; rows = refl }
