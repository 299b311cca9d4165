use Rattle.lavzimo_rows.proofs.ShownLaws.{kept-moved}
use Rattle.lavzimo_rows.proofs.laws.rows_are_moved.Goals as goal

pub returns : goal.returns
returns c = kept-moved
