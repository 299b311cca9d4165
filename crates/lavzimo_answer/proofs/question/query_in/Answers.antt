use Rattle.std.proofs.Common.{refl}
use Rattle.lavzimo_answer.proofs.QueryFacts.{not-text, word-gives, word-refused}
use Rattle.lavzimo_answer.proofs.question.query_in.Goals as goal

pub returns-in-Some-clause-query : goal.returns-in-Some-clause-query
returns-in-Some-clause-query c = word-gives c.args.text.items c.in-Some.word c.query_of_word.result c.in-Some.ensures.some c.in-Some.ensures.text c.query_of_word.ensures.query

pub returns-in-Some-clause-cause : goal.returns-in-Some-clause-cause
returns-in-Some-clause-cause c = word-refused c.args.text.items c.in-Some.word c.query_of_word.result c.in-Some.ensures.some c.in-Some.ensures.text c.query_of_word.ensures.cause

pub returns-in-None-clause-cause : goal.returns-in-None-clause-cause
returns-in-None-clause-cause c = not-text c.args.text.items (c.in-None.ensures.none refl)
