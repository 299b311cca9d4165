use Rattle.std.proofs.Common.{refl}
use Rattle.csv.proofs.OnLiterals.{csv_on_literals}
use Rattle.pipe_source.proofs.worked.chunks_up_to_a_stop.Goals as goal

pub returns-clause-missing : goal.returns-clause-missing
unfolding csv_on_literals
returns-clause-missing c = refl

pub returns-clause-field : goal.returns-clause-field
unfolding csv_on_literals
returns-clause-field c = refl

pub returns-clause-header : goal.returns-clause-header
unfolding csv_on_literals
returns-clause-header c = refl

pub returns-clause-no_byte : goal.returns-clause-no_byte
unfolding csv_on_literals
returns-clause-no_byte c = refl

pub returns-clause-width : goal.returns-clause-width
unfolding csv_on_literals
returns-clause-width c = refl

pub returns-clause-behind_the_limit : goal.returns-clause-behind_the_limit
unfolding csv_on_literals
returns-clause-behind_the_limit c = refl

pub returns-clause-last_number : goal.returns-clause-last_number
unfolding csv_on_literals
returns-clause-last_number c = refl
