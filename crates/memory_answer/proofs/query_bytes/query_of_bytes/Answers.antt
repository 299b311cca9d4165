use Rattle.std.proofs.Common.{rules, ◌≡◌, ◌∙◌, Err, Ok}
use Rattle.pipe_aggs.specs.QueryTrees.{query_tree}
use Rattle.tool_query.specs.QueryWord.{word_query}
use Rattle.memory_answer.proofs.WordFacts.{no-word, word-query}
use Rattle.memory_answer.proofs.query_bytes.query_of_bytes.Goals as goal

pub returns-in_default-clause-cause : goal.returns-in_default-clause-cause
returns-in_default-clause-cause c = no-word c.args.bytes.now c.in_default.ensures.cases.0

pub returns-in-Ok-query_of_word-clause-query : goal.returns-in-Ok-query_of_word-clause-query
returns-in-Ok-query_of_word-clause-query c =
    let read : word_query c.args.bytes.now ≡ Ok (query_tree c.in-Ok-query_of_word.query) = search rules in
    word-query c.args.bytes.now c.in-Ok.ensures.cases.1 ∙ read

pub returns-in-Err-Refused-clause-cause : goal.returns-in-Err-Refused-clause-cause
returns-in-Err-Refused-clause-cause c =
    let none : word_query c.args.bytes.now ≡ Err c.in-Err-Refused.why = search rules in
    word-query c.args.bytes.now c.in-Ok.ensures.cases.1 ∙ none
