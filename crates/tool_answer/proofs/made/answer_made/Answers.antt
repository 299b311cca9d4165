use Rattle.std.proofs.Common.{◌≡◌, None}
use Rattle.pipe_words.specs.Plans.{plan_seen}
use Rattle.tool_run.specs.MadeLines.{made_lines}
use Rattle.tool_words.specs.Asked.{makes}
use Rattle.pipe_plan.specs.Stores.{stores_seen}
use Rattle.tool_answer.specs.Faults.{IsCaused}
use Rattle.tool_answer.specs.Inside.{IsBefore, IsUnread}
use Rattle.tool_answer.specs.MadeRun.{HasMadeLines}
use Rattle.tool_answer.proofs.MadeFacts.{has-lines, lines-begun}
use Rattle.tool_answer.proofs.RunFacts.{ok-at}
use Rattle.tool_answer.proofs.ToolFacts.{written-has, written-left}
use Rattle.tool_answer.proofs.made.answer_made.Goals as goal

pub returns-in-Ok-ended-clause-left : goal.returns-in-Ok-ended-clause-left
returns-in-Ok-ended-clause-left g c = λ told.
    let store = g.M.Store.SpillStore in
    let groups = c.in-Ok-ended.groups in
    let p = plan_seen c.args.question.plan in
    let m = c.args.question.rows in
    let stores = stores_seen store.held store.told store.faults store.sure store.path c.run_rows-ended.result.1.items in
    written-left c.write_lines-fault.result (makes p m) told groups.journals stores c.write_lines-fault.ensures.faults
    (made_lines m.rows groups, has-lines p m groups stores (ok-at c.run_rows-ended.result.0 groups _ c.in-Ok-ended.is c.run_rows-ended.ensures.answered))

pub returns-in-Ok-ended-clause-memory : goal.returns-in-Ok-ended-clause-memory
returns-in-Ok-ended-clause-memory g c = λ is.
    let store = g.M.Store.SpillStore in
    let groups = c.in-Ok-ended.groups in
    let p = plan_seen c.args.question.plan in
    let m = c.args.question.rows in
    let stores = stores_seen store.held store.told store.faults store.sure store.path c.run_rows-ended.result.1.items in
    let has : HasMadeLines p m groups.journals stores (made_lines m.rows groups) = has-lines p m groups stores (ok-at c.run_rows-ended.result.0 groups _ c.in-Ok-ended.is c.run_rows-ended.ensures.answered) in
    lines-begun c.args.output.now c.write_lines-fault.new.output (λ o. g.O.Output.told o) p m None groups.journals stores (made_lines m.rows groups) has (c.write_lines-fault.ensures.memory is)

pub returns-in-Ok-ended-clause-cause : goal.returns-in-Ok-ended-clause-cause
returns-in-Ok-ended-clause-cause g c = λ told.
    let store = g.M.Store.SpillStore in
    let stores = stores_seen store.held store.told store.faults store.sure store.path c.run_rows-ended.result.1.items in
    written-has (λ f. IsCaused f (makes (plan_seen c.args.question.plan) c.args.question.rows) told stores) c.write_lines-fault.result c.write_lines-fault.ensures.faults tt tt

pub returns-in-Ok-ended-clause-untouched : goal.returns-in-Ok-ended-clause-untouched
returns-in-Ok-ended-clause-untouched g c =
    written-has (λ f. IsBefore f → c.write_lines-fault.new.output ≡ c.args.output.now) c.write_lines-fault.result c.write_lines-fault.ensures.faults (λ before. absurd before) (λ before. absurd before)

pub returns-in-Ok-ended-clause-unread : goal.returns-in-Ok-ended-clause-unread
returns-in-Ok-ended-clause-unread g c =
    written-has (λ f. IsUnread f) c.write_lines-fault.result c.write_lines-fault.ensures.faults tt tt
