use Rattle.std.proofs.Common.{refl}
use Rattle.csv.proofs.OnLiterals.{csv_on_literals}
use Rattle.pipe_source.proofs.worked_names.named_stops.Goals as goal

pub returns-clause-lacks : goal.returns-clause-lacks
unfolding csv_on_literals
returns-clause-lacks c = refl

pub returns-clause-twice : goal.returns-clause-twice
unfolding csv_on_literals
returns-clause-twice c = refl

pub returns-clause-later_file : goal.returns-clause-later_file
unfolding csv_on_literals
returns-clause-later_file c = refl

pub returns-clause-no_byte : goal.returns-clause-no_byte
unfolding csv_on_literals
returns-clause-no_byte c = refl

pub returns-clause-no_file : goal.returns-clause-no_file
unfolding csv_on_literals
returns-clause-no_file c = refl

pub returns-clause-value : goal.returns-clause-value
unfolding csv_on_literals
returns-clause-value c = refl

pub returns-clause-width : goal.returns-clause-width
unfolding csv_on_literals
returns-clause-width c = refl

pub returns-clause-no_rows : goal.returns-clause-no_rows
unfolding csv_on_literals
returns-clause-no_rows c = refl
