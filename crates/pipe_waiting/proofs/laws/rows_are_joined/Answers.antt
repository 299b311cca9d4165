-- As many rows as were asked for, and rows behind rows.
use Rattle.pipe_waiting.proofs.ReadBack.{count_read, join}
use Rattle.pipe_waiting.proofs.laws.rows_are_joined.Goals as goal

pub returns-clause-count : goal.returns-clause-count
returns-clause-count c = count_read

pub returns-clause-held : goal.returns-clause-held
returns-clause-held c = λ inputs m n a b h g. (join inputs m n a b h g).hold

pub returns-clause-rows : goal.returns-clause-rows
returns-clause-rows c = λ inputs m n a b h g. (join inputs m n a b h g).read
