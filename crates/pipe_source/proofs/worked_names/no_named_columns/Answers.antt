use Rattle.std.proofs.Common.{refl}
use Rattle.csv.proofs.OnLiterals.{csv_on_literals}
use Rattle.pipe_source.proofs.worked_names.no_named_columns.Goals as goal

pub returns-clause-rows : goal.returns-clause-rows
unfolding csv_on_literals
returns-clause-rows c = refl

pub returns-clause-width : goal.returns-clause-width
unfolding csv_on_literals
returns-clause-width c = refl
