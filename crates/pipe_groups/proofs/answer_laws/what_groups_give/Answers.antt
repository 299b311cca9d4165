use Rattle.pipe_groups.proofs.AnswerFacts.{held-answer, held-firsts, held-whole}
use Rattle.pipe_groups.proofs.answer_laws.what_groups_give.Goals as goal

pub returns-clause-rows : goal.returns-clause-rows
returns-clause-rows c = held-answer

pub returns-clause-answer : goal.returns-clause-answer
returns-clause-answer c = held-whole

pub returns-clause-firsts : goal.returns-clause-firsts
returns-clause-firsts c = held-firsts
