use Rattle.std.proofs.Common.{◌≡◌, ◌∙◌, Some, ap, subst}
use Rattle.rollup_words.specs.Asked.{asked}
use Rattle.rollup_answer.specs.Faults.{IsCaused}
use Rattle.rollup_answer.specs.Headline.{IsBegun}
use Rattle.rollup_answer.specs.Inside.{EndsRefused, IsBefore}
use Rattle.rollup_answer.proofs.RollupFacts.{begun-before, some-at, told-exact, told-output, told-refusal, written-exact}
use Rattle.rollup_answer.proofs.rollup.run_rollup.Goals as goal

pub returns-in-None-clause-exact : goal.returns-in-None-clause-exact
returns-in-None-clause-exact g c = λ f known is.
    written-exact f (asked c.args.words.now) (g.I.InputFiles.told c.args.input.now) (g.O.Output.told c.args.output.now) (g.O.Output.told c.run.new.output) (c.run.ensures.written c.in-None.is) known is

pub returns-in-Some-clause-exact : goal.returns-in-Some-clause-exact
returns-in-Some-clause-exact g c = λ f known is.
    told-exact f c.in-Some.fault (asked c.args.words.now) (g.I.InputFiles.told c.args.input.now) c.report.result
    (some-at c.run.result c.in-Some.fault (λ e. IsCaused e (asked c.args.words.now) (g.I.InputFiles.told c.args.input.now)) c.in-Some.is c.run.ensures.cause)
    c.report.ensures.either known is

pub returns-in-Some-clause-refuses : goal.returns-in-Some-clause-refuses
returns-in-Some-clause-refuses g c =
    told-refusal c.in-Some.fault (asked c.args.words.now) c.report.result (subst (EndsRefused (asked c.args.words.now)) c.in-Some.is c.run.ensures.refused) c.report.ensures.either

pub returns-in-Some-clause-output_begun : goal.returns-in-Some-clause-output_begun
returns-in-Some-clause-output_begun g c = λ failed. c.run.ensures.begun (c.in-Some.is ∙ ap (λ f. Some f) (told-output c.in-Some.fault c.report.result c.report.ensures.either failed))

pub returns-in-Some-clause-memory_begun : goal.returns-in-Some-clause-memory_begun
returns-in-Some-clause-memory_begun g c = λ wanting.
    begun-before c.in-Some.fault c.args.output.now c.run.new.output
    (IsBegun (asked c.args.words.now) (g.I.InputFiles.told c.args.input.now) (g.O.Output.told c.args.output.now) (g.O.Output.told c.run.new.output))
    (some-at c.run.result c.in-Some.fault (λ e. IsBefore e → c.run.new.output ≡ c.args.output.now) c.in-Some.is c.run.ensures.untouched)
    (λ is. c.run.ensures.begun (c.in-Some.is ∙ ap (λ f. Some f) is)) (λ is. c.run.ensures.memory (c.in-Some.is ∙ ap (λ f. Some f) is))
