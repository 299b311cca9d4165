use Rattle.pipe_groups.proofs.ByPlaceFacts.{placed-answer, placed-apart, placed-rows}
use Rattle.pipe_groups.proofs.answer_laws.what_placed_rows_give.Goals as goal

pub returns-clause-apart : goal.returns-clause-apart
returns-clause-apart c = λ q rs keys frame firsts distinct same. placed-apart q rs distinct keys same frame firsts

pub returns-clause-rows : goal.returns-clause-rows
returns-clause-rows c = λ q rs keys frame firsts distinct same. placed-rows q rs distinct keys same frame firsts

pub returns-clause-answer : goal.returns-clause-answer
returns-clause-answer c = λ q rs keys frame firsts distinct same. placed-answer q rs distinct keys same frame firsts
