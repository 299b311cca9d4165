-- Rows of given types can wait, and rows that can wait are read back.
use Rattle.pipe_waiting.proofs.ReadBack.{all_can_wait, alone, of_rows}
use Rattle.pipe_waiting.proofs.laws.rows_are_read_back.Goals as goal

pub returns-clause-read_back : goal.returns-clause-read_back
returns-clause-read_back c = λ keys inputs rows h room. alone inputs rows (all_can_wait keys inputs rows h room)

pub returns-clause-can_wait : goal.returns-clause-can_wait
returns-clause-can_wait c = all_can_wait

pub returns-clause-held : goal.returns-clause-held
returns-clause-held c = λ inputs rows h. (of_rows inputs rows h).hold

pub returns-clause-rows : goal.returns-clause-rows
returns-clause-rows c = alone
