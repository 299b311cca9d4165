use Rattle.std.proofs.Common.{rules, ◌≡◌, subst, sym, Option}
use Rattle.pipe_aggs.specs.QueryTrees.{query_tree}
use Rattle.std.specs.Prelude.{◌⊎◌}
use Rattle.pipe_io.specs.Files.{Files}
use Rattle.lavzimo_answer.specs.Headline.{IsBegun, IsLeft}
use Rattle.tool_shell.specs.declared.status.TheConstants.{INPUT_FAILED}
use Rattle.lavzimo_run.specs.Jobs.{job_seen}
use Rattle.lavzimo_run.specs.declared.job.Job.{Job}
use Rattle.lavzimo_shown.specs.Showing.{ShowingSeen, shown_of}
use Rattle.lavzimo_words.specs.Asked.{ask, asked_seen, question_seen}
use Rattle.lavzimo_answer.specs.Asking.{IsQueryOf, job_of, query_files}
use Rattle.lavzimo_answer.specs.Faults.{status_of}
use Rattle.lavzimo_answer.specs.Names.{names_seen}
use Rattle.lavzimo_answer.proofs.JobFacts.{left-job, memory-front, rose-some, tried-behind}
use Rattle.lavzimo_answer.proofs.answer.answer.Goals as goal

pub returns-clause-left : goal.returns-clause-left
returns-clause-left g c =
    let a = asked_seen c.args.asked in
    let told = g.I.InputFiles.told c.ask_question-ready.new.input in
    let before = g.I.InputFiles.told c.args.input.now in
    let told-is : told ≡ before = c.ask_question-ready.ensures.told in
    let q = query_tree c.in-Ok.ready.query in
    let end = c.answer_job.result in
    let first : IsQueryOf a.question before q = search rules in
    let asked : IsQueryOf a.question told q = subst (λ (t : Option Files). IsQueryOf a.question t q) (sym told-is) first in
    let job : Job = record {
      query = c.in-Ok.ready.query;
      files = c.args.asked.files;
      workers = c.workers_of-workers.result;
      partitions = c.partitions_of-partitions.result;
      spill_dir = c.args.asked.spill_dir;
    } in
    let job-is : job_seen job ≡ job_of c.args.processors a q = λ i. record { query = q; files = a.files; workers = c.workers_of-workers.ensures i; partitions = c.partitions_of-partitions.ensures i; spill_dir = a.spill_dir } in
    let showing : ShowingSeen = c.in-Ok.ready.showing in
    let shows : showing ≡ shown_of a.question q = search rules in
    subst (λ (t : Option Files). IsLeft c.args.processors (ask a) t end.journals end.stores) told-is
    (left-job c.args.processors a told q asked (job_seen job) showing job-is shows end.journals end.stores end.fault (names_seen c.in-Ok-names_of.names)
    (λ is. let h = c.answer_job.ensures.written is in (h.0, h.1)) (λ is. let h = c.answer_job.ensures.begun is in (h.0, h.1)) (λ is. let h = c.answer_job.ensures.memory is in (h.0, h.1)) c.answer_job.ensures.ended)

pub returns-clause-input_failed : goal.returns-clause-input_failed
returns-clause-input_failed g c =
    rose-some c.answer_job.result.fault (λ f. status_of f ≡ INPUT_FAILED) _ _ _ c.ask_question-ready.ensures.rose c.answer_job.ensures.input_failed

pub returns-clause-tried : goal.returns-clause-tried
returns-clause-tried g c =
    tried-behind _ _ _ (query_files (question_seen c.args.asked.question)) c.args.asked.files.items c.ask_question-ready.ensures.tried c.answer_job.ensures.tried

pub returns-clause-memory : goal.returns-clause-memory
returns-clause-memory g c = λ memory.
    let a = asked_seen c.args.asked in
    let told = g.I.InputFiles.told c.ask_question-ready.new.input in
    let before = g.I.InputFiles.told c.args.input.now in
    let told-is : told ≡ before = c.ask_question-ready.ensures.told in
    let q = query_tree c.in-Ok.ready.query in
    let end = c.answer_job.result in
    let first : IsQueryOf a.question before q = search rules in
    let asked : IsQueryOf a.question told q = subst (λ (t : Option Files). IsQueryOf a.question t q) (sym told-is) first in
    let job : Job = record {
      query = c.in-Ok.ready.query;
      files = c.args.asked.files;
      workers = c.workers_of-workers.result;
      partitions = c.partitions_of-partitions.result;
      spill_dir = c.args.asked.spill_dir;
    } in
    let job-is : job_seen job ≡ job_of c.args.processors a q = λ i. record { query = q; files = a.files; workers = c.workers_of-workers.ensures i; partitions = c.partitions_of-partitions.ensures i; spill_dir = a.spill_dir } in
    let showing : ShowingSeen = c.in-Ok.ready.showing in
    let shows : showing ≡ shown_of a.question q = search rules in
    subst (λ (t : Option Files). (c.answer_job.new.output ≡ c.args.output.now) ⊎ IsBegun c.args.processors (ask a) t (g.O.Output.told c.args.output.now) (g.O.Output.told c.answer_job.new.output) end.journals end.stores) told-is
    (memory-front c.args.processors a told q asked (job_seen job) showing job-is shows end.journals end.stores c.args.output.now c.answer_job.new.output (g.O.Output.told c.args.output.now) (g.O.Output.told c.answer_job.new.output)
    (c.answer_job.ensures.memory memory))
