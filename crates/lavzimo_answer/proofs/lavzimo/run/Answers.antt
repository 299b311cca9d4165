use Rattle.std.proofs.Common.{rules, ◌≡◌, refl, subst, sym}
use Rattle.pipe_io.specs.Tried.{TriedFront}
use Rattle.pipe_io.proofs.TriedFacts.{front-none}
use Rattle.lavzimo_run.specs.Stores.{WereMadeIn}
use Rattle.lavzimo_words.specs.Asked.{Words, ask, asked_of, asked_seen}
use Rattle.lavzimo_answer.specs.Asking.{files_asked, folder_asked}
use Rattle.lavzimo_answer.specs.Headline.{IsBegun, IsWritten}
use Rattle.lavzimo_answer.proofs.lavzimo.run.Goals as goal

pub returns-in-Ok-Asked-clause-written : goal.returns-in-Ok-Asked-clause-written
returns-in-Ok-Asked-clause-written g c = λ done.
    let is : asked_of c.args.words.now ≡ ask (asked_seen c.in-Ok-Asked.asked) = search rules in
    subst (λ (w : Words). IsWritten c.args.processors w (g.I.InputFiles.told c.args.input.now) (g.O.Output.told c.args.output.now) (g.O.Output.told c.answer.new.output) c.answer.result.journals c.answer.result.stores) (sym is) (c.answer.ensures.written done)

pub returns-in-Ok-Asked-clause-tried : goal.returns-in-Ok-Asked-clause-tried
returns-in-Ok-Asked-clause-tried g c =
    let is : asked_of c.args.words.now ≡ ask (asked_seen c.in-Ok-Asked.asked) = search rules in
    subst (λ (w : Words). TriedFront (g.I.InputFiles.tried c.args.input.now) (g.I.InputFiles.tried c.answer.new.input) (files_asked w)) (sym is) c.answer.ensures.tried

pub returns-in-Ok-Asked-clause-folders : goal.returns-in-Ok-Asked-clause-folders
returns-in-Ok-Asked-clause-folders g c =
    let is : asked_of c.args.words.now ≡ ask (asked_seen c.in-Ok-Asked.asked) = search rules in
    subst (λ (w : Words). WereMadeIn (folder_asked w) (g.M.SpillMaker.folders c.args.maker.now) (g.M.SpillMaker.folders c.answer.new.maker)) (sym is) c.answer.ensures.folders

pub returns-in-Ok-Asked-clause-begun : goal.returns-in-Ok-Asked-clause-begun
returns-in-Ok-Asked-clause-begun g c = λ failed.
    let is : asked_of c.args.words.now ≡ ask (asked_seen c.in-Ok-Asked.asked) = search rules in
    subst (λ (w : Words). IsBegun c.args.processors w (g.I.InputFiles.told c.args.input.now) (g.O.Output.told c.args.output.now) (g.O.Output.told c.answer.new.output) c.answer.result.journals c.answer.result.stores) (sym is) (c.answer.ensures.begun failed)

pub returns-in-Ok-Faulty-clause-tried : goal.returns-in-Ok-Faulty-clause-tried
returns-in-Ok-Faulty-clause-tried g c = front-none _ _ (files_asked (asked_of c.args.words.now)) refl

pub returns-in-Ok-Help-clause-tried : goal.returns-in-Ok-Help-clause-tried
returns-in-Ok-Help-clause-tried g c = front-none _ _ (files_asked (asked_of c.args.words.now)) refl

pub returns-in-Ok-Version-clause-tried : goal.returns-in-Ok-Version-clause-tried
returns-in-Ok-Version-clause-tried g c = front-none _ _ (files_asked (asked_of c.args.words.now)) refl

pub returns-in-Err-clause-tried : goal.returns-in-Err-clause-tried
returns-in-Err-clause-tried g c = front-none _ _ (files_asked (asked_of c.args.words.now)) refl
