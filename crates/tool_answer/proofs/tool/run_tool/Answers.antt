use Rattle.std.proofs.Common.{◌≡◌, ◌∙◌, ◌++◌, ℕ, Some, sym, ap, subst, arith, inl, inr}
use Rattle.std.specs.Prelude.{◌⊎◌, IsTrue}
use Rattle.std.specs.List.{All}
use Rattle.std.proofs.lemmas.Bool.{false≢true}
use Rattle.std.proofs.lemmas.Option.{none-some}
use Rattle.pipe_io.specs.Output.{WroteFront}
use Rattle.tool_words.specs.Asked.{asked}
use Rattle.tool_answer.specs.Asking.{due_paths}
use Rattle.tool_answer.specs.Ended.{IsSoundStore, NeverFailed}
use Rattle.tool_answer.specs.Inside.{RanSeen}
use Rattle.tool_answer.specs.Faults.{fault_line, IsCaused}
use Rattle.tool_answer.specs.Inside.{EndsMade, EndsRefused, IsLeft}
use Rattle.tool_answer.specs.Headline.{HasNoRun, HasRun, HasStopped}
use Rattle.tool_shell.specs.Reports.{Reports}
use Rattle.tool_answer.specs.Status.{FrameDamaged, is_answer, is_read_end, StoreFailed}
use Rattle.tool_answer.specs.declared.fault.ToolFault.TheVariants as fault
use Rattle.tool_answer.proofs.RunFacts.{some-at}
use Rattle.tool_answer.proofs.ToolFacts.{done-refusal, done-unread, left-any, left-paths, told-complete, told-damaged, told-due, told-not-done, told-otherwise, told-ran, told-refusal, told-store, told-unfailed, told-unread, written-answered, written-due, written-run}
use Rattle.tool_answer.proofs.tool.run_tool.Goals as goal
use Rattle.tool_answer.proofs.tool.run_tool.Goals.{in-None, in-Some}

pub returns-clause-answered : goal.returns-clause-answered
returns-clause-answered g c = elim c.match-fault.branch [
  | in-None w ↦ λ done sound.
      written-answered (asked c.args.words.now) (g.I.InputFiles.told c.args.input.now) (g.O.Output.told c.args.output.now) (g.O.Output.told c.run.new.output) c.run.result.journals c.run.result.stores
      (c.run.ensures.written (sym (ap (λ (r : RanSeen). r.fault) c.fault.view_is) ∙ w.in-None.is)) (subst (All IsSoundStore) (ap (λ (r : RanSeen). r.stores) c.fault.view_is) sound)
  | in-Some w ↦ λ done sound. absurd (told-not-done w.in-Some.fault w.report-status.result w.report-status.ensures.either (sym w.status-is ∙ done))
]

pub returns-clause-as_due : goal.returns-clause-as_due
returns-clause-as_due g c = elim c.match-fault.branch [
  | in-None w ↦
      rw w.status-is
      (written-due (asked c.args.words.now) (g.I.InputFiles.told c.args.input.now) (g.O.Output.told c.args.output.now) (g.O.Output.told c.run.new.output) c.run.result.journals c.run.result.stores
      (c.run.ensures.written (sym (ap (λ (r : RanSeen). r.fault) c.fault.view_is) ∙ w.in-None.is)))
  | in-Some w ↦
      rw w.status-is
      (told-due w.in-Some.fault (asked c.args.words.now) (g.I.InputFiles.told c.args.input.now) c.run.result.stores w.report-status.result
      (some-at c.run.result.fault w.in-Some.fault (λ f. IsCaused f (asked c.args.words.now) (g.I.InputFiles.told c.args.input.now) c.run.result.stores) (sym (ap (λ (r : RanSeen). r.fault) c.fault.view_is) ∙ w.in-Some.is) c.run.ensures.cause)
      w.report-status.ensures.either)
]

pub returns-clause-refuses : goal.returns-clause-refuses
returns-clause-refuses g c = elim c.match-fault.branch [
  | in-None w ↦ done-refusal (asked c.args.words.now) c.match-fault.status (subst (EndsRefused (asked c.args.words.now)) (sym (ap (λ (r : RanSeen). r.fault) c.fault.view_is) ∙ w.in-None.is) c.run.ensures.refused)
  | in-Some w ↦
      rw w.status-is
      (told-refusal w.in-Some.fault (asked c.args.words.now) w.report-status.result
      (subst (EndsRefused (asked c.args.words.now)) (sym (ap (λ (r : RanSeen). r.fault) c.fault.view_is) ∙ w.in-Some.is) c.run.ensures.refused) w.report-status.ensures.either)
]

pub returns-clause-generated : goal.returns-clause-generated
returns-clause-generated g c = elim c.match-fault.branch [
  | in-None w ↦ rw w.status-is (done-unread (asked c.args.words.now))
  | in-Some w ↦
      rw w.status-is
      (told-unread w.in-Some.fault (asked c.args.words.now) w.report-status.result
      (subst (EndsMade (asked c.args.words.now)) (sym (ap (λ (r : RanSeen). r.fault) c.fault.view_is) ∙ w.in-Some.is) c.run.ensures.generated) w.report-status.ensures.either)
]

pub returns-clause-store_failed : goal.returns-clause-store_failed
returns-clause-store_failed g c = elim c.match-fault.branch [
  | in-None w ↦ λ is. absurd (omega (arith, is, w.status-is))
  | in-Some w ↦ λ is.
      subst (StoreFailed (asked c.args.words.now)) (sym (ap (λ (r : RanSeen). r.stores) c.fault.view_is))
      (told-store w.in-Some.fault (asked c.args.words.now) (g.I.InputFiles.told c.args.input.now) c.run.result.stores w.report-status.result
      (some-at c.run.result.fault w.in-Some.fault (λ f. IsCaused f (asked c.args.words.now) (g.I.InputFiles.told c.args.input.now) c.run.result.stores) (sym (ap (λ (r : RanSeen). r.fault) c.fault.view_is) ∙ w.in-Some.is) c.run.ensures.cause)
      w.report-status.ensures.either (sym w.status-is ∙ is))
]

pub returns-clause-damaged : goal.returns-clause-damaged
returns-clause-damaged g c = elim c.match-fault.branch [
  | in-None w ↦ λ is. absurd (omega (arith, is, w.status-is))
  | in-Some w ↦ λ is.
      subst (FrameDamaged (asked c.args.words.now)) (sym (ap (λ (r : RanSeen). r.stores) c.fault.view_is))
      (told-damaged w.in-Some.fault (asked c.args.words.now) (g.I.InputFiles.told c.args.input.now) c.run.result.stores w.report-status.result
      (some-at c.run.result.fault w.in-Some.fault (λ f. IsCaused f (asked c.args.words.now) (g.I.InputFiles.told c.args.input.now) c.run.result.stores) (sym (ap (λ (r : RanSeen). r.fault) c.fault.view_is) ∙ w.in-Some.is) c.run.ensures.cause)
      w.report-status.ensures.either (sym w.status-is ∙ is))
]

pub returns-clause-unfailed : goal.returns-clause-unfailed
returns-clause-unfailed g c = elim c.match-fault.branch [
  | in-None w ↦ λ is. absurd (false≢true (subst (λ (n : ℕ). IsTrue (is_read_end n)) w.status-is is))
  | in-Some w ↦ λ is.
      subst (λ (r : RanSeen). NeverFailed r.stores) (sym c.fault.view_is)
      (told-unfailed w.in-Some.fault (asked c.args.words.now) (g.I.InputFiles.told c.args.input.now) c.run.result.stores w.report-status.result
      (some-at c.run.result.fault w.in-Some.fault (λ f. IsCaused f (asked c.args.words.now) (g.I.InputFiles.told c.args.input.now) c.run.result.stores) (sym (ap (λ (r : RanSeen). r.fault) c.fault.view_is) ∙ w.in-Some.is) c.run.ensures.cause)
      w.report-status.ensures.either (subst (λ (n : ℕ). IsTrue (is_read_end n)) w.status-is is))
]

pub returns-clause-complete : goal.returns-clause-complete
returns-clause-complete g c = elim c.match-fault.branch [
  | in-None w ↦ λ known due sound input output. inl w.status-is
  | in-Some w ↦ λ known due sound input output.
      let has : c.run.result.fault ≡ Some w.in-Some.fault = sym (ap (λ (r : RanSeen). r.fault) c.fault.view_is) ∙ w.in-Some.is in
      inr
      (w.status-is
      ∙ told-complete w.in-Some.fault (asked c.args.words.now) (g.I.InputFiles.told c.args.input.now) c.run.result.stores w.report-status.result
      (some-at c.run.result.fault w.in-Some.fault (λ f. IsCaused f (asked c.args.words.now) (g.I.InputFiles.told c.args.input.now) c.run.result.stores) has c.run.ensures.cause)
      w.report-status.ensures.either known due (subst (All IsSoundStore) (ap (λ (r : RanSeen). r.stores) c.fault.view_is) sound)
      (λ is. input (c.run.ensures.input_failed (has ∙ ap (λ f. Some f) is))) (λ is. output (c.run.ensures.output_failed (has ∙ ap (λ f. Some f) is))))
]

pub returns-clause-ran : goal.returns-clause-ran
returns-clause-ran g c = elim c.match-fault.branch [
  | in-None w ↦ λ is.
      subst (λ (r : RanSeen). HasRun (asked c.args.words.now) (g.I.InputFiles.told c.args.input.now) r.journals r.stores) (sym c.fault.view_is)
      (written-run (asked c.args.words.now) (g.I.InputFiles.told c.args.input.now) (g.O.Output.told c.args.output.now) (g.O.Output.told c.run.new.output) c.run.result.journals c.run.result.stores
      (c.run.ensures.written (sym (ap (λ (r : RanSeen). r.fault) c.fault.view_is) ∙ w.in-None.is)))
  | in-Some w ↦ λ is.
      subst (λ (r : RanSeen). HasRun (asked c.args.words.now) (g.I.InputFiles.told c.args.input.now) r.journals r.stores) (sym c.fault.view_is)
      (told-ran w.in-Some.fault (asked c.args.words.now) (g.I.InputFiles.told c.args.input.now) c.run.result.journals c.run.result.stores w.report-status.result
      (some-at c.run.result.fault w.in-Some.fault (λ f. IsLeft f (asked c.args.words.now) (g.I.InputFiles.told c.args.input.now) c.run.result.journals c.run.result.stores) (sym (ap (λ (r : RanSeen). r.fault) c.fault.view_is) ∙ w.in-Some.is) c.run.ensures.left)
      w.report-status.ensures.either (subst (λ (n : ℕ). IsTrue (is_answer n)) w.status-is is))
]

pub returns-clause-stores_made : goal.returns-clause-stores_made
returns-clause-stores_made g c = elim c.match-fault.branch [
  | in-None w ↦ λ other. c.run.ensures.stores_made (λ is. none-some fault.Memory (sym (sym (ap (λ (r : RanSeen). r.fault) c.fault.view_is) ∙ w.in-None.is) ∙ is))
  | in-Some w ↦ λ other.
      c.run.ensures.stores_made
      (told-otherwise c.run.result.fault w.in-Some.fault w.report-status.result (sym (ap (λ (r : RanSeen). r.fault) c.fault.view_is) ∙ w.in-Some.is) w.report-status.ensures.status (λ m. other (w.status-is ∙ m)))
]

pub returns-clause-memory_made : goal.returns-clause-memory_made
returns-clause-memory_made g c =
    subst (λ (r : RanSeen). HasNoRun r.journals r.stores ⊎ (g.M.StoreMaker.made c.run.new.maker ≡ g.M.StoreMaker.made c.args.maker.now ++ due_paths (asked c.args.words.now))) (sym c.fault.view_is) c.run.ensures.memory_made

pub returns-clause-memory_left : goal.returns-clause-memory_left
returns-clause-memory_left g c = elim c.match-fault.branch [
  | in-None w ↦
      subst (λ (r : RanSeen). HasNoRun r.journals r.stores ⊎ HasStopped (asked c.args.words.now) (g.I.InputFiles.told c.args.input.now) r.journals r.stores ⊎ HasRun (asked c.args.words.now) (g.I.InputFiles.told c.args.input.now) r.journals r.stores) (sym c.fault.view_is)
      (inr (inr (written-run (asked c.args.words.now) (g.I.InputFiles.told c.args.input.now) (g.O.Output.told c.args.output.now) (g.O.Output.told c.run.new.output) c.run.result.journals c.run.result.stores
      (c.run.ensures.written (sym (ap (λ (r : RanSeen). r.fault) c.fault.view_is) ∙ w.in-None.is)))))
  | in-Some w ↦
      subst (λ (r : RanSeen). HasNoRun r.journals r.stores ⊎ HasStopped (asked c.args.words.now) (g.I.InputFiles.told c.args.input.now) r.journals r.stores ⊎ HasRun (asked c.args.words.now) (g.I.InputFiles.told c.args.input.now) r.journals r.stores) (sym c.fault.view_is)
      (left-any w.in-Some.fault (asked c.args.words.now) (g.I.InputFiles.told c.args.input.now) c.run.result.journals c.run.result.stores
      (some-at c.run.result.fault w.in-Some.fault (λ f. IsLeft f (asked c.args.words.now) (g.I.InputFiles.told c.args.input.now) c.run.result.journals c.run.result.stores) (sym (ap (λ (r : RanSeen). r.fault) c.fault.view_is) ∙ w.in-Some.is) c.run.ensures.left))
]

pub returns-clause-reported : goal.returns-clause-reported
returns-clause-reported g c = elim c.match-fault.branch [
  | in-None w ↦ λ not_done not_memory. absurd (not_done w.status-is)
  | in-Some w ↦ λ not_done not_memory. record {
    fault = w.in-Some.fault;
    cause = subst (IsCaused w.in-Some.fault (asked c.args.words.now) (g.I.InputFiles.told c.args.input.now)) (sym (ap (λ (r : RanSeen). r.stores) c.fault.view_is))
        (some-at c.run.result.fault w.in-Some.fault (λ f. IsCaused f (asked c.args.words.now) (g.I.InputFiles.told c.args.input.now) c.run.result.stores) (sym (ap (λ (r : RanSeen). r.fault) c.fault.view_is) ∙ w.in-Some.is) c.run.ensures.cause);
    status_is = sym (w.status-is ∙ w.report-status.ensures.status (λ m. not_memory (w.status-is ∙ m)));
    line = subst (λ m. Reports (fault_line w.in-Some.fault) (g.E.Output.faults c.args.messages.now) (g.E.Output.faults m) (g.E.Output.told c.args.messages.now) (g.E.Output.told m)) (sym w.messages-is)
        (w.report-status.ensures.line (λ m. not_memory (w.status-is ∙ m)));
  }
]

pub returns-clause-memory_reported : goal.returns-clause-memory_reported
returns-clause-memory_reported g c = elim c.match-fault.branch [
  | in-None w ↦ λ is. absurd (omega (arith, is, w.status-is))
  | in-Some w ↦ λ is. record {
    fault = w.in-Some.fault;
    front = subst (λ m. WroteFront (g.E.Output.told c.args.messages.now) (g.E.Output.told m) (fault_line w.in-Some.fault)) (sym w.messages-is) w.report-status.ensures.front;
  }
]

pub returns-clause-paths : goal.returns-clause-paths
returns-clause-paths g c = left-paths (asked c.args.words.now) (g.I.InputFiles.told c.args.input.now) _ _ (returns-clause-memory_left g c)
