use Rattle.std.proofs.Common.{subst}
use Rattle.summary_words.specs.Asked.{asked}
use Rattle.summary_answer.specs.Faults.{IsCaused}
use Rattle.summary_answer.specs.Inside.{EndsRefused}
use Rattle.summary_answer.specs.Opened.{opened_of}
use Rattle.summary_answer.proofs.SummaryFacts.{done-exact, some-at, told-exact, told-refusal}
use Rattle.summary_answer.proofs.summary.run_summary.Goals as goal

pub returns-in-None-clause-exact : goal.returns-in-None-clause-exact
returns-in-None-clause-exact g c = λ f has known is.
    done-exact g.S.SpillStore.told g.S.SpillStore.held f (asked c.args.words.now) (g.I.InputFiles.told c.args.input.now) (g.O.Output.told c.args.output.now) (g.O.Output.told c.run-ended.new.output) c.args.opened c.run-ended.result.1
    (c.run-ended.ensures.done c.in-None.is) (c.run-ended.ensures.only c.in-None.is) has known is

pub returns-in-Some-clause-exact : goal.returns-in-Some-clause-exact
returns-in-Some-clause-exact g c = λ f has known is.
    let o = opened_of g.S.SpillStore.told g.S.SpillStore.held c.args.opened in
    let files = g.I.InputFiles.told c.args.input.now in
    told-exact f c.in-Some.fault (asked c.args.words.now) o files c.report.result
    (some-at c.run-ended.result.0 c.in-Some.fault (λ e. IsCaused e (asked c.args.words.now) o files) c.in-Some.is c.run-ended.ensures.cause)
    c.report.ensures.either has known is

pub returns-in-Some-clause-refuses : goal.returns-in-Some-clause-refuses
returns-in-Some-clause-refuses g c =
    told-refusal c.in-Some.fault (asked c.args.words.now) c.report.result (subst (EndsRefused (asked c.args.words.now)) c.in-Some.is c.run-ended.ensures.refused) c.report.ensures.either
