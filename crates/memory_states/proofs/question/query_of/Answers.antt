use Rattle.std.proofs.Common.{rules, ◌≡◌, ◌∙◌, IfOk, IfErr, Ok, ap}
use Rattle.memory_answer.proofs.WordFacts.{no-word, word-query}
use Rattle.pipe_aggs.specs.QueryTrees.{query_tree}
use Rattle.rollup_words.specs.Asked.{whole_query}
use Rattle.rollup_words.specs.Reading.{IsNoWhole}
use Rattle.tool_query.specs.QueryWord.{word_query}
use Rattle.memory_states.proofs.question.query_of.Goals as goal

pub returns-in_default-clause-cause : goal.returns-in_default-clause-cause
returns-in_default-clause-cause c = ap whole_query (no-word c.args.bytes.now c.in_default.ensures.cases.0)

pub returns-clause-query : goal.returns-clause-query
returns-clause-query c =
    let read : IfOk c.whole_query.result (λ q. whole_query (word_query c.args.bytes.now) ≡ Ok (query_tree q)) = search rules in
    rw (word-query c.args.bytes.now c.in-Ok.ensures.cases.1) read

pub returns-clause-cause : goal.returns-clause-cause
returns-clause-cause c =
    let none : IfErr c.whole_query.result (λ e. IsNoWhole e (whole_query (word_query c.args.bytes.now))) = search rules in
    rw (word-query c.args.bytes.now c.in-Ok.ensures.cases.1) none
