use Rattle.std.proofs.Common.{◌≡◌, ◌++◌, refl}
use Rattle.pipe_aggs.specs.QueryTrees.{query_tree}
use Rattle.pipe_io.proofs.TriedFacts.{front-none}
use Rattle.pipe_words.specs.Plans.{plan_seen}
use Rattle.tool_words.specs.Asked.{asks}
use Rattle.tool_answer.specs.Asking.{files_asked}
use Rattle.pipe_lines.specs.Lines.{joined_texts}
use Rattle.pipe_plan.specs.Stores.{stores_seen}
use Rattle.tool_answer.specs.Faults.{IsCaused}
use Rattle.tool_answer.specs.Inside.{IsBefore}
use Rattle.tool_answer.specs.Headline.{HasAnswer}
use Rattle.tool_answer.proofs.RunFacts.{ok-at}
use Rattle.tool_answer.proofs.ToolFacts.{memory-begun, written-has, written-left}
use Rattle.tool_answer.proofs.tool.answer_question.Goals as goal

pub returns-in_default-clause-tried : goal.returns-in_default-clause-tried
returns-in_default-clause-tried g c =
    front-none _ _ (files_asked (asks (plan_seen c.args.question.plan) (query_tree c.args.question.query))) refl

pub returns-in-Ok-ended-clause-left : goal.returns-in-Ok-ended-clause-left
returns-in-Ok-ended-clause-left g c =
    let store = g.M.Store.SpillStore in
    let answer = c.in-Ok-ended.answer in
    let p = plan_seen c.args.question.plan in
    let q = query_tree c.args.question.query in
    let told = g.I.InputFiles.told c.args.input.now in
    let stores = stores_seen store.held store.told store.faults store.sure store.path c.run_question-ended.result.1.items in
    rw c.journals_of.ensures
    (written-left c.write_answer-fault.result (asks p q) told answer.groups.journals stores c.write_answer-fault.ensures.faults
    (_, ok-at c.run_question-ended.result.0 answer _ c.in-Ok-ended.is c.run_question-ended.ensures.answered))

pub returns-in-Ok-ended-clause-memory : goal.returns-in-Ok-ended-clause-memory
returns-in-Ok-ended-clause-memory g c = λ is.
    let store = g.M.Store.SpillStore in
    let answer = c.in-Ok-ended.answer in
    let p = plan_seen c.args.question.plan in
    let q = query_tree c.args.question.query in
    let told = g.I.InputFiles.told c.args.input.now in
    let stores = stores_seen store.held store.told store.faults store.sure store.path c.run_question-ended.result.1.items in
    let has : HasAnswer p q told answer.groups.journals stores (answer.head.items ++ joined_texts answer.groups.text.texts.items) = ok-at c.run_question-ended.result.0 answer _ c.in-Ok-ended.is c.run_question-ended.ensures.answered in
    rw c.journals_of.ensures
    (memory-begun c.args.output.now c.write_answer-fault.new.output (λ o. g.O.Output.told o) p q told answer.groups.journals stores _ has (c.write_answer-fault.ensures.memory is))

pub returns-in-Ok-ended-clause-cause : goal.returns-in-Ok-ended-clause-cause
returns-in-Ok-ended-clause-cause g c =
    let store = g.M.Store.SpillStore in
    let stores = stores_seen store.held store.told store.faults store.sure store.path c.run_question-ended.result.1.items in
    written-has (λ f. IsCaused f (asks (plan_seen c.args.question.plan) (query_tree c.args.question.query)) (g.I.InputFiles.told c.args.input.now) stores) c.write_answer-fault.result c.write_answer-fault.ensures.faults tt tt

pub returns-in-Ok-ended-clause-untouched : goal.returns-in-Ok-ended-clause-untouched
returns-in-Ok-ended-clause-untouched g c =
    written-has (λ f. IsBefore f → c.write_answer-fault.new.output ≡ c.args.output.now) c.write_answer-fault.result c.write_answer-fault.ensures.faults (λ before. absurd before) (λ before. absurd before)
