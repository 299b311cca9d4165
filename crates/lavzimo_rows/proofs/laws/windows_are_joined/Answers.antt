use Rattle.lavzimo_rows.proofs.ShownLaws.{joined}
use Rattle.lavzimo_rows.proofs.laws.windows_are_joined.Goals as goal

pub returns : goal.returns
returns c = joined
