use Rattle.std.proofs.Common.{rules, ◌≡◌, ◌∙◌, [], ap, refl, subst, sym}
use Rattle.pipe_aggs.specs.QueryTrees.{query_tree}
use Rattle.pipe_io.specs.Tried.{TriedFront}
use Rattle.pipe_io.proofs.TriedFacts.{front-none}
use Rattle.summary_words.specs.Asked.{adds, Asked, asked, files_asked}
use Rattle.summary_words.specs.Reading.{requested}
use Rattle.summary_words.specs.declared.request.Request.TheVariants as request
use Rattle.summary_answer.specs.Headline.{IsOwed}
use Rattle.summary_answer.proofs.EndFacts.{appends-none}
use Rattle.summary_answer.proofs.on_store.answer_store.Goals as goal

pub returns-in-Ok-Add-clause-done : goal.returns-in-Ok-Add-clause-done
returns-in-Ok-Add-clause-done g c = λ none.
    let s = c.in-Ok-Add.question in
    let read : c.in-Ok-Add.field-0 ≡ request.Add s = search (rules) in
    let is : asked c.args.words.now ≡ adds (query_tree s.query) s.files.items = c.in-Ok-Add.ensures.asks ∙ ap requested read in
    record {
      text = [];
      owed = subst (λ (a : Asked). IsOwed a (g.I.InputFiles.told c.args.input.now) (g.S.SpillStore.told c.args.store) (g.S.SpillStore.held c.args.store) (g.S.SpillStore.told c.answer_add.result.1) []) (sym is) (c.answer_add.ensures.added none);
      written = appends-none (g.O.Output.told c.args.output.now);
    }

pub returns-in-Ok-Add-clause-tried : goal.returns-in-Ok-Add-clause-tried
returns-in-Ok-Add-clause-tried g c =
    let s = c.in-Ok-Add.question in
    let read : c.in-Ok-Add.field-0 ≡ request.Add s = search (rules) in
    let is : asked c.args.words.now ≡ adds (query_tree s.query) s.files.items = c.in-Ok-Add.ensures.asks ∙ ap requested read in
    subst (λ (a : Asked). TriedFront (g.I.InputFiles.tried c.args.input.now) (g.I.InputFiles.tried c.answer_add.new.input) (files_asked a)) (sym is) c.answer_add.ensures.tried

pub returns-in-Err-clause-tried : goal.returns-in-Err-clause-tried
returns-in-Err-clause-tried g c = front-none _ _ (files_asked (asked c.args.words.now)) refl
