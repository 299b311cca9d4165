use Rattle.std.proofs.Common.{◌∙◌, ap, arith, subst, sym}
use Rattle.std.proofs.lemmas.List.{length-map}
use Rattle.pipe_model.specs.Query.{QueryTree}
use Rattle.pipe_run.specs.Setting.{Setting}
use Rattle.pipe_words.specs.Plans.{plan_seen}
use Rattle.pipe_plan.specs.Stores.{stores_seen}
use Rattle.tool_run.specs.Answering.{AreFedMade}
use Rattle.tool_answer.specs.Headline.{HaveFront}
use Rattle.tool_answer.proofs.MadeFacts.{begun-fault, end-begun, has-made, has-made-sound, made-caused, made-front, made-none, made-sound}
use Rattle.tool_answer.proofs.RunFacts.{began-of, err-at, front-made, never-seen, ok-at, plan-fits}
use Rattle.tool_answer.proofs.made_run.run_rows.Goals as goal

pub begin_run-requires-clause-fits : goal.begin_run-requires-clause-fits
begin_run-requires-clause-fits g c = λ lives bounds.
    let store = g.S.SpillStore in
    plan-fits store.held store.told store.faults store.sure store.path (plan_seen c.args.question.plan) _ c.args.stores.items c.requires.runs (omega (arith, length-map c.args.question.plan.actions.items (λ l. l.items), c.args.question.plan.actions.ok.0)) c.requires.made c.requires.count

pub begin_run-requires-clause-each : goal.begin_run-requires-clause-each
begin_run-requires-clause-each g c = λ lives bounds. omega (arith, c.requires.runs.rules, c.args.question.plan.rules.ok.0)

pub run_made-ended-requires-clause-fits : goal.run_made-ended-requires-clause-fits
run_made-ended-requires-clause-fits g c = λ lives bounds.
    sym (ap (λ (t : QueryTree). t.schema) c.requires.query) ∙ ap (λ (x : Setting). x.query.schema) (sym c.in-Ok.ensures.setting)

pub returns-in-Err-clause-stopped : goal.returns-in-Err-clause-stopped
returns-in-Err-clause-stopped g c =
    let store = g.S.SpillStore in
    subst (λ (t : QueryTree). HaveFront (plan_seen c.args.question.plan) t (AreFedMade c.args.question.rows) (stores_seen store.held store.told store.faults store.sure store.path c.in-Err.stores.items)) c.requires.query
    (front-made store.held store.told store.faults store.sure store.path (plan_seen c.args.question.plan) c.args.question.query (AreFedMade c.args.question.rows) c.args.stores.items c.in-Err.stores.items c.requires.runs c.requires.made c.requires.count c.requires.paths (made-none c.args.question.rows) c.in-Err.ensures.back)

pub returns-in-Ok-ended-clause-answered : goal.returns-in-Ok-ended-clause-answered
returns-in-Ok-ended-clause-answered g c =
    let store = g.S.SpillStore in
    let began = began-of store.held store.told store.faults store.sure store.path (plan_seen c.args.question.plan) c.args.question.query c.args.stores.items c.in-Ok.run' c.requires.made c.requires.count c.requires.paths c.in-Ok.ensures.setting in
    has-made (plan_seen c.args.question.plan) c.args.question.query c.args.question.rows (stores_seen store.held store.told store.faults store.sure store.path c.args.stores.items) (stores_seen store.held store.told store.faults store.sure store.path c.run_made-ended.result.1.items) c.in-Ok.run' c.in-Ok-ended.groups began c.requires.query (ok-at c.run_made-ended.result.0 c.in-Ok-ended.groups _ c.in-Ok-ended.is c.run_made-ended.ensures.answered)

pub returns-in-Ok-ended-clause-in_memory : goal.returns-in-Ok-ended-clause-in_memory
returns-in-Ok-ended-clause-in_memory g c =
    let store = g.S.SpillStore in
    let began = began-of store.held store.told store.faults store.sure store.path (plan_seen c.args.question.plan) c.args.question.query c.args.stores.items c.in-Ok.run' c.requires.made c.requires.count c.requires.paths c.in-Ok.ensures.setting in
    let never = never-seen store.held store.told store.faults store.sure store.path store.never_failed c.run_made-ended.result.1.items in
    has-made-sound (plan_seen c.args.question.plan) c.args.question.rows c.in-Ok-ended.groups (stores_seen store.held store.told store.faults store.sure store.path c.run_made-ended.result.1.items)
    (has-made (plan_seen c.args.question.plan) c.args.question.query c.args.question.rows (stores_seen store.held store.told store.faults store.sure store.path c.args.stores.items) (stores_seen store.held store.told store.faults store.sure store.path c.run_made-ended.result.1.items) c.in-Ok.run' c.in-Ok-ended.groups began c.requires.query (ok-at c.run_made-ended.result.0 c.in-Ok-ended.groups _ c.in-Ok-ended.is c.run_made-ended.ensures.answered)) never

pub returns-clause-cause : goal.returns-clause-cause
returns-clause-cause g c =
    let store = g.S.SpillStore in
    let began = began-of store.held store.told store.faults store.sure store.path (plan_seen c.args.question.plan) c.args.question.query c.args.stores.items c.in-Ok.run' c.requires.made c.requires.count c.requires.paths c.in-Ok.ensures.setting in
    let never = never-seen store.held store.told store.faults store.sure store.path store.never_failed c.run_made-ended.result.1.items in
    λ told. rw c.file_fault.ensures (made-caused (plan_seen c.args.question.plan) c.args.question.query c.args.question.rows c.requires.query (stores_seen store.held store.told store.faults store.sure store.path c.args.stores.items) (stores_seen store.held store.told store.faults store.sure store.path c.run_made-ended.result.1.items) c.in-Ok.run' began (err-at c.run_made-ended.result.0 c.in-Err-ended.error _ c.in-Err-ended.is c.run_made-ended.ensures.back) told never c.in-Err-ended.error (err-at c.run_made-ended.result.0 c.in-Err-ended.error _ c.in-Err-ended.is c.run_made-ended.ensures.cause))

pub returns-clause-of_stores : goal.returns-clause-of_stores
returns-clause-of_stores g c =
    let store = g.S.SpillStore in
    rw c.file_fault.ensures (begun-fault c.in-Err-ended.error (end-begun c.in-Ok.run' (stores_seen store.held store.told store.faults store.sure store.path c.run_made-ended.result.1.items) c.in-Err-ended.error (err-at c.run_made-ended.result.0 c.in-Err-ended.error _ c.in-Err-ended.is c.run_made-ended.ensures.cause)))

pub returns-clause-stopped : goal.returns-clause-stopped
returns-clause-stopped g c =
    let store = g.S.SpillStore in
    let began = began-of store.held store.told store.faults store.sure store.path (plan_seen c.args.question.plan) c.args.question.query c.args.stores.items c.in-Ok.run' c.requires.made c.requires.count c.requires.paths c.in-Ok.ensures.setting in
    made-front (plan_seen c.args.question.plan) c.args.question.query c.args.question.rows c.requires.query (stores_seen store.held store.told store.faults store.sure store.path c.args.stores.items) (stores_seen store.held store.told store.faults store.sure store.path c.run_made-ended.result.1.items) c.in-Ok.run' began (err-at c.run_made-ended.result.0 c.in-Err-ended.error _ c.in-Err-ended.is c.run_made-ended.ensures.back)

pub returns-clause-in_memory : goal.returns-clause-in_memory
returns-clause-in_memory g c =
    let store = g.S.SpillStore in
    let began = began-of store.held store.told store.faults store.sure store.path (plan_seen c.args.question.plan) c.args.question.query c.args.stores.items c.in-Ok.run' c.requires.made c.requires.count c.requires.paths c.in-Ok.ensures.setting in
    let never = never-seen store.held store.told store.faults store.sure store.path store.never_failed c.run_made-ended.result.1.items in
    made-sound (plan_seen c.args.question.plan) c.args.question.query c.args.question.rows c.requires.query (stores_seen store.held store.told store.faults store.sure store.path c.args.stores.items) (stores_seen store.held store.told store.faults store.sure store.path c.run_made-ended.result.1.items) c.in-Ok.run' began (err-at c.run_made-ended.result.0 c.in-Err-ended.error _ c.in-Err-ended.is c.run_made-ended.ensures.back) never
