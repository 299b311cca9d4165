use Rattle.narrow_query.proofs.AnswerFacts.{answer-same, output-same, rows-same}
use Rattle.narrow_query.proofs.laws.answers_over_fewer_columns.Goals as goal

pub returns-clause-rows : goal.returns-clause-rows
returns-clause-rows c = rows-same

pub returns-clause-columns : goal.returns-clause-columns
returns-clause-columns c = output-same

pub returns-clause-answer : goal.returns-clause-answer
returns-clause-answer c = answer-same
