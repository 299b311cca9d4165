use Rattle.std.proofs.Common.{◌≡◌, ◌∙◌, rules, ap, inr, refl, sym, subst}
use Rattle.pipe_aggs.specs.QueryTrees.{query_tree}
use Rattle.pipe_io.specs.Tried.{TriedFront}
use Rattle.pipe_io.proofs.TriedFacts.{front-none}
use Rattle.rollup_words.specs.Asked.{Asked, asked, files_asked, rolls, saves}
use Rattle.rollup_words.specs.Requests.{requested}
use Rattle.rollup_words.specs.declared.request.Request.TheVariants as request
use Rattle.rollup_answer.specs.Headline.{IsBegun}
use Rattle.rollup_answer.specs.Inside.{IsOfOutput}
use Rattle.rollup_answer.specs.declared.fault.RollupFault.TheVariants as fault
use Rattle.rollup_answer.proofs.RollupFacts.{ask-never, some-at}
use Rattle.rollup_answer.proofs.rollup.run.Goals as goal

pub returns-in-Ok-Save-clause-tried : goal.returns-in-Ok-Save-clause-tried
returns-in-Ok-Save-clause-tried g c =
    let s = c.in-Ok-Save.question in
    let read : c.in-Ok-Save.field-0 ≡ request.Save s = search (rules) in
    let is : asked c.args.words.now ≡ saves (query_tree s.query) s.first s.files.items = c.in-Ok-Save.ensures.asks ∙ ap requested read in
    subst (λ (a : Asked). TriedFront (g.I.InputFiles.tried c.args.input.now) (g.I.InputFiles.tried c.answer_save.new.input) (files_asked a)) (sym is) c.answer_save.ensures.tried

pub returns-in-Ok-Roll-clause-tried : goal.returns-in-Ok-Roll-clause-tried
returns-in-Ok-Roll-clause-tried g c =
    let r = c.in-Ok-Roll.question in
    let read : c.in-Ok-Roll.field-0 ≡ request.Roll r = search (rules) in
    let is : asked c.args.words.now ≡ rolls (query_tree r.query) r.keep.items r.files.items = c.in-Ok-Roll.ensures.asks ∙ ap requested read in
    subst (λ (a : Asked). TriedFront (g.I.InputFiles.tried c.args.input.now) (g.I.InputFiles.tried c.answer_roll.new.input) (files_asked a)) (sym is) c.answer_roll.ensures.tried

pub returns-in-Ok-Save-clause-begun : goal.returns-in-Ok-Save-clause-begun
returns-in-Ok-Save-clause-begun g c = λ failed.
    let s = c.in-Ok-Save.question in
    let read : c.in-Ok-Save.field-0 ≡ request.Save s = search (rules) in
    let is : asked c.args.words.now ≡ saves (query_tree s.query) s.first s.files.items = c.in-Ok-Save.ensures.asks ∙ ap requested read in
    subst (λ (a : Asked). IsBegun a (g.I.InputFiles.told c.args.input.now) (g.O.Output.told c.args.output.now) (g.O.Output.told c.answer_save.new.output)) (sym is)
    (some-at c.answer_save.result fault.OutputFailed
    (λ f. IsOfOutput f → IsBegun (saves (query_tree s.query) s.first s.files.items) (g.I.InputFiles.told c.args.input.now) (g.O.Output.told c.args.output.now) (g.O.Output.told c.answer_save.new.output))
    failed c.answer_save.ensures.begun tt)

pub returns-in-Ok-Save-clause-memory : goal.returns-in-Ok-Save-clause-memory
returns-in-Ok-Save-clause-memory g c = λ wanting.
    let s = c.in-Ok-Save.question in
    let read : c.in-Ok-Save.field-0 ≡ request.Save s = search (rules) in
    let is : asked c.args.words.now ≡ saves (query_tree s.query) s.first s.files.items = c.in-Ok-Save.ensures.asks ∙ ap requested read in
    inr (subst (λ (a : Asked). IsBegun a (g.I.InputFiles.told c.args.input.now) (g.O.Output.told c.args.output.now) (g.O.Output.told c.answer_save.new.output)) (sym is)
    (some-at c.answer_save.result fault.Memory
    (λ f. IsOfOutput f → IsBegun (saves (query_tree s.query) s.first s.files.items) (g.I.InputFiles.told c.args.input.now) (g.O.Output.told c.args.output.now) (g.O.Output.told c.answer_save.new.output))
    wanting c.answer_save.ensures.begun tt))

pub returns-in-Ok-Roll-clause-begun : goal.returns-in-Ok-Roll-clause-begun
returns-in-Ok-Roll-clause-begun g c = λ failed.
    let r = c.in-Ok-Roll.question in
    let read : c.in-Ok-Roll.field-0 ≡ request.Roll r = search (rules) in
    let is : asked c.args.words.now ≡ rolls (query_tree r.query) r.keep.items r.files.items = c.in-Ok-Roll.ensures.asks ∙ ap requested read in
    subst (λ (a : Asked). IsBegun a (g.I.InputFiles.told c.args.input.now) (g.O.Output.told c.args.output.now) (g.O.Output.told c.answer_roll.new.output)) (sym is)
    (some-at c.answer_roll.result fault.OutputFailed
    (λ f. IsOfOutput f → IsBegun (rolls (query_tree r.query) r.keep.items r.files.items) (g.I.InputFiles.told c.args.input.now) (g.O.Output.told c.args.output.now) (g.O.Output.told c.answer_roll.new.output))
    failed c.answer_roll.ensures.begun tt)

pub returns-in-Ok-Roll-clause-memory : goal.returns-in-Ok-Roll-clause-memory
returns-in-Ok-Roll-clause-memory g c = λ wanting.
    let r = c.in-Ok-Roll.question in
    let read : c.in-Ok-Roll.field-0 ≡ request.Roll r = search (rules) in
    let is : asked c.args.words.now ≡ rolls (query_tree r.query) r.keep.items r.files.items = c.in-Ok-Roll.ensures.asks ∙ ap requested read in
    inr (subst (λ (a : Asked). IsBegun a (g.I.InputFiles.told c.args.input.now) (g.O.Output.told c.args.output.now) (g.O.Output.told c.answer_roll.new.output)) (sym is)
    (some-at c.answer_roll.result fault.Memory
    (λ f. IsOfOutput f → IsBegun (rolls (query_tree r.query) r.keep.items r.files.items) (g.I.InputFiles.told c.args.input.now) (g.O.Output.told c.args.output.now) (g.O.Output.told c.answer_roll.new.output))
    wanting c.answer_roll.ensures.begun tt))

pub returns-in-Err-clause-begun : goal.returns-in-Err-clause-begun
returns-in-Err-clause-begun g c = λ failed. absurd (ask-never c.in-Err.error c.ask_fault.result c.ask_fault.ensures failed)

pub returns-in-Err-clause-tried : goal.returns-in-Err-clause-tried
returns-in-Err-clause-tried g c = front-none _ _ (files_asked (asked c.args.words.now)) refl
