use Rattle.std.proofs.Common.{◌≡◌, ◌∙◌, ◌+◌, ℕ, Some, sym, ap, subst, arith, inl}
use Rattle.std.specs.Prelude.{◌⊎◌, IsTrue}
use Rattle.std.specs.List.{All}
use Rattle.std.proofs.lemmas.Bool.{false≢true}
use Rattle.pipe_columns.specs.Causes.{Rose}
use Rattle.tool_shell.specs.declared.status.TheConstants.{INPUT_FAILED, NO_MEMORY}
use Rattle.lavzimo_run.specs.Stores.{IsSoundStore}
use Rattle.lavzimo_words.specs.Asked.{asked_of}
use Rattle.lavzimo_answer.specs.Asking.{stores_asked}
use Rattle.lavzimo_answer.specs.Ended.{RanSeen}
use Rattle.lavzimo_answer.specs.Faults.{IsCaused, status_of}
use Rattle.lavzimo_answer.specs.Headline.{HasNoRun, IsBegun, IsLeft, IsWritten}
use Rattle.lavzimo_answer.specs.Inside.{FaultUnasked, IsBefore}
use Rattle.lavzimo_answer.specs.Status.{IsTold, ReportsFront, is_status, is_unwritten}
use Rattle.lavzimo_answer.proofs.AnswerFacts.{complete-told, if-told, some-at, told-same, written-answered, written-due}
use Rattle.lavzimo_answer.proofs.EndFacts.{before-writing, done-unasked, memory-begun, not-done, told-due, told-input, told-output, told-refused, told-status, told-unasked}
use Rattle.lavzimo_answer.proofs.lavzimo.run_lavzimo.Goals as goal
use Rattle.lavzimo_answer.proofs.lavzimo.run_lavzimo.Goals.{in-None, in-Some}

pub returns-clause-written : goal.returns-clause-written
returns-clause-written g c = elim c.match-fault.branch [
  | in-None w ↦
      λ done. subst (λ (r : RanSeen). IsWritten c.args.processors (asked_of c.args.words.now) (g.I.InputFiles.told c.args.input.now) (g.O.Output.told c.args.output.now) (g.O.Output.told c.run.new.output) r.journals r.stores) (sym c.fault.view_is) (c.run.ensures.written (sym (ap (λ (r : RanSeen). r.fault) c.fault.view_is) ∙ w.in-None.is))
  | in-Some w ↦
      λ done. absurd (not-done w.in-Some.fault w.report-status.result w.report-status.ensures.either (sym w.status-is ∙ done))
]

pub returns-clause-answered : goal.returns-clause-answered
returns-clause-answered g c = elim c.match-fault.branch [
  | in-None w ↦
      λ done sound.
      written-answered c.args.processors (asked_of c.args.words.now) (g.I.InputFiles.told c.args.input.now) (g.O.Output.told c.args.output.now) (g.O.Output.told c.run.new.output) c.run.result.journals c.run.result.stores (c.run.ensures.written (sym (ap (λ (r : RanSeen). r.fault) c.fault.view_is) ∙ w.in-None.is)) (subst (All IsSoundStore) (ap (λ (r : RanSeen). r.stores) c.fault.view_is) sound)
  | in-Some w ↦
      λ done sound. absurd (not-done w.in-Some.fault w.report-status.result w.report-status.ensures.either (sym w.status-is ∙ done))
]

pub returns-clause-as_due : goal.returns-clause-as_due
returns-clause-as_due g c = elim c.match-fault.branch [
  | in-None w ↦
      rw w.status-is (written-due c.args.processors (asked_of c.args.words.now) (g.I.InputFiles.told c.args.input.now) (g.O.Output.told c.args.output.now) (g.O.Output.told c.run.new.output) c.run.result.journals c.run.result.stores (c.run.ensures.written (sym (ap (λ (r : RanSeen). r.fault) c.fault.view_is) ∙ w.in-None.is)))
  | in-Some w ↦
      rw w.status-is (told-due c.args.processors w.in-Some.fault (asked_of c.args.words.now) (g.I.InputFiles.told c.args.input.now) c.run.result.stores w.report-status.result (some-at c.run.result.fault w.in-Some.fault (λ f. IsCaused c.args.processors f (asked_of c.args.words.now) (g.I.InputFiles.told c.args.input.now) c.run.result.stores) (sym (ap (λ (r : RanSeen). r.fault) c.fault.view_is) ∙ w.in-Some.is) c.run.ensures.cause) w.report-status.ensures.either)
]

pub returns-clause-unasked : goal.returns-clause-unasked
returns-clause-unasked g c = elim c.match-fault.branch [
  | in-None w ↦
      done-unasked (asked_of c.args.words.now) c.match-fault.status w.status-is (subst (FaultUnasked (asked_of c.args.words.now)) (sym (ap (λ (r : RanSeen). r.fault) c.fault.view_is) ∙ w.in-None.is) c.run.ensures.unasked)
  | in-Some w ↦
      rw w.status-is (told-unasked w.in-Some.fault (asked_of c.args.words.now) w.report-status.result (subst (FaultUnasked (asked_of c.args.words.now)) (sym (ap (λ (r : RanSeen). r.fault) c.fault.view_is) ∙ w.in-Some.is) c.run.ensures.unasked) w.report-status.ensures.either)
]

pub returns-clause-words_refused : goal.returns-clause-words_refused
returns-clause-words_refused g c = elim c.match-fault.branch [
  | in-None w ↦
      λ is. absurd (omega (arith, is, w.status-is))
  | in-Some w ↦
      λ is. told-refused c.args.processors w.in-Some.fault (asked_of c.args.words.now) (g.I.InputFiles.told c.args.input.now) c.run.result.stores w.report-status.result (some-at c.run.result.fault w.in-Some.fault (λ f. IsCaused c.args.processors f (asked_of c.args.words.now) (g.I.InputFiles.told c.args.input.now) c.run.result.stores) (sym (ap (λ (r : RanSeen). r.fault) c.fault.view_is) ∙ w.in-Some.is) c.run.ensures.cause) w.report-status.ensures.either (sym w.status-is ∙ is)
]

pub returns-clause-input_failed : goal.returns-clause-input_failed
returns-clause-input_failed g c = elim c.match-fault.branch [
  | in-None w ↦
      λ is. absurd (omega (arith, is, w.status-is))
  | in-Some w ↦
      λ is. some-at c.run.result.fault w.in-Some.fault (λ f. status_of f ≡ INPUT_FAILED → Rose (g.I.InputFiles.faults c.args.input.now) (g.I.InputFiles.faults c.run.new.input)) (sym (ap (λ (r : RanSeen). r.fault) c.fault.view_is) ∙ w.in-Some.is) c.run.ensures.input_failed (told-input w.in-Some.fault w.report-status.result w.report-status.ensures.either (sym w.status-is ∙ is))
]

pub returns-clause-output_failed : goal.returns-clause-output_failed
returns-clause-output_failed g c = elim c.match-fault.branch [
  | in-None w ↦
      λ is. absurd (omega (arith, is, w.status-is))
  | in-Some w ↦
      λ is. c.run.ensures.output_failed ((sym (ap (λ (r : RanSeen). r.fault) c.fault.view_is) ∙ w.in-Some.is) ∙ ap (λ f. Some f) (told-output w.in-Some.fault w.report-status.result w.report-status.ensures.either (sym w.status-is ∙ is)))
]

pub returns-clause-output_begun : goal.returns-clause-output_begun
returns-clause-output_begun g c = elim c.match-fault.branch [
  | in-None w ↦
      λ is. absurd (omega (arith, is, w.status-is))
  | in-Some w ↦
      λ is. subst (λ (r : RanSeen). IsBegun c.args.processors (asked_of c.args.words.now) (g.I.InputFiles.told c.args.input.now) (g.O.Output.told c.args.output.now) (g.O.Output.told c.run.new.output) r.journals r.stores) (sym c.fault.view_is) (c.run.ensures.begun ((sym (ap (λ (r : RanSeen). r.fault) c.fault.view_is) ∙ w.in-Some.is) ∙ ap (λ f. Some f) (told-output w.in-Some.fault w.report-status.result w.report-status.ensures.either (sym w.status-is ∙ is))))
]

pub returns-clause-memory_begun : goal.returns-clause-memory_begun
returns-clause-memory_begun g c = elim c.match-fault.branch [
  | in-None w ↦
      λ is. absurd (omega (arith, is, w.status-is))
  | in-Some w ↦
      λ is.
      subst (λ (r : RanSeen). (c.run.new.output ≡ c.args.output.now) ⊎ IsBegun c.args.processors (asked_of c.args.words.now) (g.I.InputFiles.told c.args.input.now) (g.O.Output.told c.args.output.now) (g.O.Output.told c.run.new.output) r.journals r.stores) (sym c.fault.view_is)
      (memory-begun w.in-Some.fault c.args.output.now c.run.new.output (some-at c.run.result.fault w.in-Some.fault (λ f. IsBefore f → c.run.new.output ≡ c.args.output.now) (sym (ap (λ (r : RanSeen). r.fault) c.fault.view_is) ∙ w.in-Some.is) c.run.ensures.untouched)
      (λ same. c.run.ensures.begun ((sym (ap (λ (r : RanSeen). r.fault) c.fault.view_is) ∙ w.in-Some.is) ∙ ap (λ f. Some f) same)) (λ same. c.run.ensures.memory ((sym (ap (λ (r : RanSeen). r.fault) c.fault.view_is) ∙ w.in-Some.is) ∙ ap (λ f. Some f) same)))
]

pub returns-clause-untouched : goal.returns-clause-untouched
returns-clause-untouched g c = elim c.match-fault.branch [
  | in-None w ↦
      λ is. absurd (false≢true (subst (λ (n : ℕ). IsTrue (is_unwritten n)) w.status-is is))
  | in-Some w ↦
      λ is.
      some-at c.run.result.fault w.in-Some.fault (λ f. IsBefore f → c.run.new.output ≡ c.args.output.now) (sym (ap (λ (r : RanSeen). r.fault) c.fault.view_is) ∙ w.in-Some.is) c.run.ensures.untouched
      (before-writing w.in-Some.fault w.report-status.result w.report-status.ensures.either (subst (λ (n : ℕ). IsTrue (is_unwritten n)) w.status-is is))
]

pub returns-clause-statuses : goal.returns-clause-statuses
returns-clause-statuses g c = elim c.match-fault.branch [
  | in-None w ↦
      ap is_status w.status-is
  | in-Some w ↦
      rw w.status-is (told-status w.in-Some.fault w.report-status.result w.report-status.ensures.either)
]

pub returns-clause-reported : goal.returns-clause-reported
returns-clause-reported g c = elim c.match-fault.branch [
  | in-None w ↦
      λ not_done not_memory. absurd (not_done w.status-is)
  | in-Some w ↦
      λ not_done not_memory. record {
        fault = w.in-Some.fault;
        cause = subst (IsCaused c.args.processors w.in-Some.fault (asked_of c.args.words.now) (g.I.InputFiles.told c.args.input.now)) (sym (ap (λ (r : RanSeen). r.stores) c.fault.view_is)) (some-at c.run.result.fault w.in-Some.fault (λ f. IsCaused c.args.processors f (asked_of c.args.words.now) (g.I.InputFiles.told c.args.input.now) c.run.result.stores) (sym (ap (λ (r : RanSeen). r.fault) c.fault.view_is) ∙ w.in-Some.is) c.run.ensures.cause);
        status_is = sym (w.status-is ∙ told-same w.in-Some.fault w.report-status.result w.report-status.ensures.either (λ m. not_memory (w.status-is ∙ m)));
        line = subst (λ m. IsTold w.in-Some.fault (g.E.Output.faults c.args.messages.now) (g.E.Output.faults m) (g.E.Output.told c.args.messages.now) (g.E.Output.told m)) (sym w.messages-is)
            (w.report-status.ensures.line (λ m. not_memory (w.status-is ∙ m)));
      }
]

pub returns-clause-memory_reported : goal.returns-clause-memory_reported
returns-clause-memory_reported g c = elim c.match-fault.branch [
  | in-None w ↦
      λ is. absurd (omega (arith, is, w.status-is))
  | in-Some w ↦
      λ is. subst (λ m. ReportsFront (g.E.Output.told c.args.messages.now) (g.E.Output.told m)) (sym w.messages-is) w.report-status.ensures.front
]

pub returns-clause-complete : goal.returns-clause-complete
returns-clause-complete g c = elim c.match-fault.branch [
  | in-None w ↦
      if-told (g.I.InputFiles.told c.args.input.now) _ (λ files good sound input output. inl w.status-is)
  | in-Some w ↦
      complete-told (g.I.InputFiles.told c.args.input.now) c.args.processors w.in-Some.fault (asked_of c.args.words.now) c.run.result.stores c.match-fault.status _ _ (subst (All IsSoundStore) (ap (λ (r : RanSeen). r.stores) c.fault.view_is)) (some-at c.run.result.fault w.in-Some.fault (λ f. IsCaused c.args.processors f (asked_of c.args.words.now) (g.I.InputFiles.told c.args.input.now) c.run.result.stores) (sym (ap (λ (r : RanSeen). r.fault) c.fault.view_is) ∙ w.in-Some.is) c.run.ensures.cause) (subst (λ k. (k ≡ status_of w.in-Some.fault) ⊎ (k ≡ NO_MEMORY)) (sym w.status-is) w.report-status.ensures.either)
      (some-at c.run.result.fault w.in-Some.fault (λ f. status_of f ≡ INPUT_FAILED → Rose (g.I.InputFiles.faults c.args.input.now) (g.I.InputFiles.faults c.run.new.input)) (sym (ap (λ (r : RanSeen). r.fault) c.fault.view_is) ∙ w.in-Some.is) c.run.ensures.input_failed)
      (λ same. c.run.ensures.output_failed ((sym (ap (λ (r : RanSeen). r.fault) c.fault.view_is) ∙ w.in-Some.is) ∙ ap (λ f. Some f) same))
]

pub returns-clause-left : goal.returns-clause-left
returns-clause-left g c = subst (λ (r : RanSeen). IsLeft c.args.processors (asked_of c.args.words.now) (g.I.InputFiles.told c.args.input.now) r.journals r.stores) (sym c.fault.view_is) c.run.ensures.left

pub returns-clause-made : goal.returns-clause-made
returns-clause-made g c =
    subst (λ (r : RanSeen). HasNoRun r.journals r.stores ⊎ (g.M.SpillMaker.made c.run.new.maker ≡ g.M.SpillMaker.made c.args.maker.now + stores_asked (asked_of c.args.words.now))) (sym c.fault.view_is) c.run.ensures.made
