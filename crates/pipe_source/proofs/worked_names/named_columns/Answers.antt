use Rattle.std.proofs.Common.{refl}
use Rattle.csv.proofs.OnLiterals.{csv_on_literals}
use Rattle.pipe_source.proofs.worked_names.named_columns.Goals as goal

pub returns : goal.returns
unfolding csv_on_literals
returns c = refl
