use Rattle.std.proofs.Common.{◌≡◌, ◌∙◌, rules, ap, refl, sym, subst}
use Rattle.std.specs.Prelude.{IfSome}
use Rattle.pipe_aggs.specs.QueryTrees.{query_tree}
use Rattle.pipe_io.specs.Tried.{TriedFront}
use Rattle.pipe_io.proofs.TriedFacts.{front-none}
use Rattle.pipe_words.specs.Plans.{plan_seen}
use Rattle.tool_words.specs.Asked.{Asked, asked, asks, makes}
use Rattle.tool_words.specs.Requests.{requested}
use Rattle.tool_words.specs.declared.request.Request.TheVariants as request
use Rattle.tool_answer.specs.Asking.{files_asked}
use Rattle.tool_answer.specs.Faults.{IsCaused}
use Rattle.tool_answer.specs.Headline.{IsBegun, IsWritten}
use Rattle.tool_answer.specs.Inside.{IsLeft}
use Rattle.tool_answer.proofs.tool.run.Goals as goal

pub returns-in-Ok-Answer-clause-written : goal.returns-in-Ok-Answer-clause-written
returns-in-Ok-Answer-clause-written g c = λ none.
    let end = c.answer_question.result in
    let read : c.in-Ok-Answer.field-0 ≡ request.Answer c.in-Ok-Answer.question = search (rules) in
    let is : asked c.args.words.now ≡ asks (plan_seen c.in-Ok-Answer.question.plan) (query_tree c.in-Ok-Answer.question.query) = c.in-Ok-Answer.ensures.asks ∙ ap requested read in
    subst (λ (a : Asked). IsWritten a (g.I.InputFiles.told c.args.input.now) (g.O.Output.told c.args.output.now) (g.O.Output.told c.answer_question.new.output) end.journals end.stores)
    (sym is) (c.answer_question.ensures.written none)

pub returns-in-Ok-Answer-clause-begun : goal.returns-in-Ok-Answer-clause-begun
returns-in-Ok-Answer-clause-begun g c = λ failed.
    let end = c.answer_question.result in
    let read : c.in-Ok-Answer.field-0 ≡ request.Answer c.in-Ok-Answer.question = search (rules) in
    let is : asked c.args.words.now ≡ asks (plan_seen c.in-Ok-Answer.question.plan) (query_tree c.in-Ok-Answer.question.query) = c.in-Ok-Answer.ensures.asks ∙ ap requested read in
    subst (λ (a : Asked). IsBegun a (g.I.InputFiles.told c.args.input.now) (g.O.Output.told c.args.output.now) (g.O.Output.told c.answer_question.new.output) end.journals end.stores)
    (sym is) (c.answer_question.ensures.begun failed)

pub returns-in-Ok-Lines-clause-written : goal.returns-in-Ok-Lines-clause-written
returns-in-Ok-Lines-clause-written g c = λ none.
    let end = c.answer_made.result in
    let read : c.in-Ok-Lines.field-0 ≡ request.Lines c.in-Ok-Lines.question = search (rules) in
    let is : asked c.args.words.now ≡ makes (plan_seen c.in-Ok-Lines.question.plan) c.in-Ok-Lines.question.rows = c.in-Ok-Lines.ensures.asks ∙ ap requested read in
    subst (λ (a : Asked). IsWritten a (g.I.InputFiles.told c.args.input.now) (g.O.Output.told c.args.output.now) (g.O.Output.told c.answer_made.new.output) end.journals end.stores)
    (sym is) (c.answer_made.ensures.written none)

pub returns-in-Ok-Lines-clause-cause : goal.returns-in-Ok-Lines-clause-cause
returns-in-Ok-Lines-clause-cause g c =
    let end = c.answer_made.result in
    let read : c.in-Ok-Lines.field-0 ≡ request.Lines c.in-Ok-Lines.question = search (rules) in
    let is : asked c.args.words.now ≡ makes (plan_seen c.in-Ok-Lines.question.plan) c.in-Ok-Lines.question.rows = c.in-Ok-Lines.ensures.asks ∙ ap requested read in
    let told = g.I.InputFiles.told c.args.input.now in
    subst (λ (a : Asked). IfSome end.fault (λ f. IsCaused f a told end.stores)) (sym is) (c.answer_made.ensures.cause told)

pub returns-in-Ok-Lines-clause-left : goal.returns-in-Ok-Lines-clause-left
returns-in-Ok-Lines-clause-left g c =
    let end = c.answer_made.result in
    let read : c.in-Ok-Lines.field-0 ≡ request.Lines c.in-Ok-Lines.question = search (rules) in
    let is : asked c.args.words.now ≡ makes (plan_seen c.in-Ok-Lines.question.plan) c.in-Ok-Lines.question.rows = c.in-Ok-Lines.ensures.asks ∙ ap requested read in
    let told = g.I.InputFiles.told c.args.input.now in
    subst (λ (a : Asked). IfSome end.fault (λ f. IsLeft f a told end.journals end.stores)) (sym is) (c.answer_made.ensures.left told)

pub returns-in-Ok-Lines-clause-begun : goal.returns-in-Ok-Lines-clause-begun
returns-in-Ok-Lines-clause-begun g c = λ failed.
    let end = c.answer_made.result in
    let read : c.in-Ok-Lines.field-0 ≡ request.Lines c.in-Ok-Lines.question = search (rules) in
    let is : asked c.args.words.now ≡ makes (plan_seen c.in-Ok-Lines.question.plan) c.in-Ok-Lines.question.rows = c.in-Ok-Lines.ensures.asks ∙ ap requested read in
    subst (λ (a : Asked). IsBegun a (g.I.InputFiles.told c.args.input.now) (g.O.Output.told c.args.output.now) (g.O.Output.told c.answer_made.new.output) end.journals end.stores)
    (sym is) (c.answer_made.ensures.begun failed)

pub returns-in-Ok-Answer-clause-tried : goal.returns-in-Ok-Answer-clause-tried
returns-in-Ok-Answer-clause-tried g c =
    let read : c.in-Ok-Answer.field-0 ≡ request.Answer c.in-Ok-Answer.question = search (rules) in
    let is : asked c.args.words.now ≡ asks (plan_seen c.in-Ok-Answer.question.plan) (query_tree c.in-Ok-Answer.question.query) = c.in-Ok-Answer.ensures.asks ∙ ap requested read in
    subst (λ (a : Asked). TriedFront (g.I.InputFiles.tried c.args.input.now) (g.I.InputFiles.tried c.answer_question.new.input) (files_asked a)) (sym is) c.answer_question.ensures.tried

pub returns-in-Ok-Lines-clause-tried : goal.returns-in-Ok-Lines-clause-tried
returns-in-Ok-Lines-clause-tried g c = front-none _ _ (files_asked (asked c.args.words.now)) refl

pub returns-in-Err-clause-tried : goal.returns-in-Err-clause-tried
returns-in-Err-clause-tried g c = front-none _ _ (files_asked (asked c.args.words.now)) refl
