use Rattle.std.proofs.Common.{◌≡◌, ◌∙◌, ap, arith, refl, rules, subst, sym, true}
use Rattle.std.proofs.lemmas.List.{length-map}
use Rattle.pipe_aggs.specs.QueryTrees.{query_tree}
use Rattle.narrow_query.specs.Names.{covers}
use Rattle.pipe_io.specs.Tried.{TriedFront}
use Rattle.pipe_io.proofs.TriedFacts.{front-none}
use Rattle.pipe_model.specs.Output.{output_schema}
use Rattle.pipe_run.specs.Setting.{Setting}
use Rattle.pipe_words.specs.Plans.{plan_seen}
use Rattle.pipe_writers.specs.TextLines.{lines_shape}
use Rattle.pipe_plan.specs.Stores.{stores_seen}
use Rattle.tool_words.specs.Asked.{files_named}
use Rattle.tool_answer.specs.Headline.{AreFedInput}
use Rattle.tool_answer.proofs.NarrowFacts.{fed-none, keeps-narrow, named-many, reader-is}
use Rattle.tool_answer.proofs.RunFacts.{began-narrow, end-comes, err-at, fault-of-run, front-made, has-text, has-text-sound, input-fault, left-none, left-read, lines-suit, never-seen, ok-at, plan-fits, run-caused, run-front, run-sound}
use Rattle.tool_answer.proofs.run.run_question.Goals as goal

pub begin_run-requires-clause-fits : goal.begin_run-requires-clause-fits
begin_run-requires-clause-fits g c = λ lives bounds.
    let store = g.S.SpillStore in
    plan-fits store.held store.told store.faults store.sure store.path (plan_seen c.args.question.plan) _ c.args.stores.items c.requires.runs (omega (arith, length-map c.args.question.plan.actions.items (λ l. l.items), c.args.question.plan.actions.ok.0)) c.requires.made c.requires.count

pub begin_run-requires-clause-each : goal.begin_run-requires-clause-each
begin_run-requires-clause-each g c = λ lives bounds. omega (arith, c.requires.runs.rules, c.args.question.plan.rules.ok.0)

pub begin_run-requires-clause-suited : goal.begin_run-requires-clause-suited
begin_run-requires-clause-suited g c = λ lives bounds.
    let n = c.in-Ok.ready in
    keeps-narrow c.args.question.plan.limits.sink c.args.question.query n.query n.wanted.items c.in-Ok.ensures.covered c.in-Ok.ensures.query c.requires.suited

pub reader_of-requires-clause-wanted : goal.reader_of-requires-clause-wanted
reader_of-requires-clause-wanted g c =
    let n = c.in-Ok.ready in
    omega (arith, named-many c.args.question.query.arena c.args.question.query.schema n.schema n.wanted.items c.in-Ok.ensures.schema c.in-Ok.ensures.wanted)

pub returns-in_default-clause-stopped : goal.returns-in_default-clause-stopped
returns-in_default-clause-stopped g c =
    let store = g.S.SpillStore in
    front-made store.held store.told store.faults store.sure store.path (plan_seen c.args.question.plan) c.args.question.query (AreFedInput (plan_seen c.args.question.plan) (query_tree c.args.question.query) (g.I.InputFiles.told c.args.input.now)) c.args.stores.items c.args.stores.items c.requires.runs c.requires.made c.requires.count c.requires.paths (fed-none (plan_seen c.args.question.plan) (query_tree c.args.question.query) (g.I.InputFiles.told c.args.input.now)) refl

pub returns-in-Err-clause-stopped : goal.returns-in-Err-clause-stopped
returns-in-Err-clause-stopped g c =
    let store = g.S.SpillStore in
    front-made store.held store.told store.faults store.sure store.path (plan_seen c.args.question.plan) c.args.question.query (AreFedInput (plan_seen c.args.question.plan) (query_tree c.args.question.query) (g.I.InputFiles.told c.args.input.now)) c.args.stores.items c.in-Err.stores.items c.requires.runs c.requires.made c.requires.count c.requires.paths (fed-none (plan_seen c.args.question.plan) (query_tree c.args.question.query) (g.I.InputFiles.told c.args.input.now)) c.in-Err.ensures.back

pub returns-in_default-reader_of-clause-stopped : goal.returns-in_default-reader_of-clause-stopped
returns-in_default-reader_of-clause-stopped g c =
    let store = g.S.SpillStore in
    let q = c.args.question.query in
    let n = c.in-Ok.ready in
    let covered : covers n.wanted.items (query_tree q) ≡ true = c.in-Ok.ensures.covered in
    let began = began-narrow store.held store.told store.faults store.sure store.path (plan_seen c.args.question.plan) q n.query n.wanted.items c.args.stores.items c.in-Ok-begin_run.run' c.requires.made c.requires.count c.requires.paths c.in-Ok.ensures.query c.in-Ok-begin_run.ensures.setting in
    run-front (plan_seen c.args.question.plan) q n.wanted.items covered (stores_seen store.held store.told store.faults store.sure store.path c.args.stores.items) (stores_seen store.held store.told store.faults store.sure store.path c.into_stores.result.items) c.in-Ok-begin_run.run' began (g.I.InputFiles.told c.args.input.now) (left-none (plan_seen c.args.question.plan) q n.wanted.items (g.I.InputFiles.told c.args.input.now) c.in-Ok-begin_run.run' (stores_seen store.held store.told store.faults store.sure store.path c.into_stores.result.items) c.in-Ok-begin_run.ensures.chunks c.into_stores.ensures.back)

pub returns-in_default-reader_of-clause-in_memory : goal.returns-in_default-reader_of-clause-in_memory
returns-in_default-reader_of-clause-in_memory g c =
    let store = g.S.SpillStore in
    let q = c.args.question.query in
    let n = c.in-Ok.ready in
    let covered : covers n.wanted.items (query_tree q) ≡ true = c.in-Ok.ensures.covered in
    let began = began-narrow store.held store.told store.faults store.sure store.path (plan_seen c.args.question.plan) q n.query n.wanted.items c.args.stores.items c.in-Ok-begin_run.run' c.requires.made c.requires.count c.requires.paths c.in-Ok.ensures.query c.in-Ok-begin_run.ensures.setting in
    let never = never-seen store.held store.told store.faults store.sure store.path store.never_failed c.into_stores.result.items in
    run-sound (plan_seen c.args.question.plan) q n.wanted.items covered (stores_seen store.held store.told store.faults store.sure store.path c.args.stores.items) (stores_seen store.held store.told store.faults store.sure store.path c.into_stores.result.items) c.in-Ok-begin_run.run' began (g.I.InputFiles.told c.args.input.now) (left-none (plan_seen c.args.question.plan) q n.wanted.items (g.I.InputFiles.told c.args.input.now) c.in-Ok-begin_run.run' (stores_seen store.held store.told store.faults store.sure store.path c.into_stores.result.items) c.in-Ok-begin_run.ensures.chunks c.into_stores.ensures.back) never

pub returns-in-Ok-ended-clause-answered : goal.returns-in-Ok-ended-clause-answered
returns-in-Ok-ended-clause-answered g c =
    let store = g.S.SpillStore in
    let q = c.args.question.query in
    let n = c.in-Ok.ready in
    let covered : covers n.wanted.items (query_tree q) ≡ true = c.in-Ok.ensures.covered in
    let began = began-narrow store.held store.told store.faults store.sure store.path (plan_seen c.args.question.plan) q n.query n.wanted.items c.args.stores.items c.in-Ok-begin_run.run' c.requires.made c.requires.count c.requires.paths c.in-Ok.ensures.query c.in-Ok-begin_run.ensures.setting in
    let reader = reader-is (plan_seen c.args.question.plan) q n.wanted.items c.in-Ok-reader_of.reader n.schema c.in-Ok.ensures.schema c.in-Ok-reader_of.ensures.options c.in-Ok-reader_of.ensures.left in
    has-text (plan_seen c.args.question.plan) q n.wanted.items covered (stores_seen store.held store.told store.faults store.sure store.path c.args.stores.items) (stores_seen store.held store.told store.faults store.sure store.path c.run_files-ended.result.1.items) c.in-Ok-begin_run.run' (g.I.InputFiles.told c.args.input.now) c.in-Ok-reader_of.reader (output_schema (query_tree n.query)) (lines_shape n.lines) n.head.items c.in-Ok-ended.groups began reader c.in-Ok.ensures.lines c.in-Ok.ensures.head (ok-at c.run_files-ended.result.0 c.in-Ok-ended.groups _ c.in-Ok-ended.is c.run_files-ended.ensures.answered)

pub returns-in-Ok-ended-clause-in_memory : goal.returns-in-Ok-ended-clause-in_memory
returns-in-Ok-ended-clause-in_memory g c =
    let store = g.S.SpillStore in
    let q = c.args.question.query in
    let n = c.in-Ok.ready in
    let covered : covers n.wanted.items (query_tree q) ≡ true = c.in-Ok.ensures.covered in
    let began = began-narrow store.held store.told store.faults store.sure store.path (plan_seen c.args.question.plan) q n.query n.wanted.items c.args.stores.items c.in-Ok-begin_run.run' c.requires.made c.requires.count c.requires.paths c.in-Ok.ensures.query c.in-Ok-begin_run.ensures.setting in
    let reader = reader-is (plan_seen c.args.question.plan) q n.wanted.items c.in-Ok-reader_of.reader n.schema c.in-Ok.ensures.schema c.in-Ok-reader_of.ensures.options c.in-Ok-reader_of.ensures.left in
    let never = never-seen store.held store.told store.faults store.sure store.path store.never_failed c.run_files-ended.result.1.items in
    has-text-sound (plan_seen c.args.question.plan) (query_tree c.args.question.query) (g.I.InputFiles.told c.args.input.now) c.in-Ok-ended.groups.journals (stores_seen store.held store.told store.faults store.sure store.path c.run_files-ended.result.1.items) _
    (has-text (plan_seen c.args.question.plan) q n.wanted.items covered (stores_seen store.held store.told store.faults store.sure store.path c.args.stores.items) (stores_seen store.held store.told store.faults store.sure store.path c.run_files-ended.result.1.items) c.in-Ok-begin_run.run' (g.I.InputFiles.told c.args.input.now) c.in-Ok-reader_of.reader (output_schema (query_tree n.query)) (lines_shape n.lines) n.head.items c.in-Ok-ended.groups began reader c.in-Ok.ensures.lines c.in-Ok.ensures.head (ok-at c.run_files-ended.result.0 c.in-Ok-ended.groups _ c.in-Ok-ended.is c.run_files-ended.ensures.answered)) never

pub returns-clause-cause : goal.returns-clause-cause
returns-clause-cause g c =
    let store = g.S.SpillStore in
    let q = c.args.question.query in
    let n = c.in-Ok.ready in
    let covered : covers n.wanted.items (query_tree q) ≡ true = c.in-Ok.ensures.covered in
    let began = began-narrow store.held store.told store.faults store.sure store.path (plan_seen c.args.question.plan) q n.query n.wanted.items c.args.stores.items c.in-Ok-begin_run.run' c.requires.made c.requires.count c.requires.paths c.in-Ok.ensures.query c.in-Ok-begin_run.ensures.setting in
    let reader = reader-is (plan_seen c.args.question.plan) q n.wanted.items c.in-Ok-reader_of.reader n.schema c.in-Ok.ensures.schema c.in-Ok-reader_of.ensures.options c.in-Ok-reader_of.ensures.left in
    let never = never-seen store.held store.told store.faults store.sure store.path store.never_failed c.run_files-ended.result.1.items in
    rw c.file_fault.ensures (run-caused (plan_seen c.args.question.plan) q n.wanted.items covered (stores_seen store.held store.told store.faults store.sure store.path c.args.stores.items) (stores_seen store.held store.told store.faults store.sure store.path c.run_files-ended.result.1.items) c.in-Ok-begin_run.run' began (g.I.InputFiles.told c.args.input.now) (left-read (plan_seen c.args.question.plan) q n.wanted.items (stores_seen store.held store.told store.faults store.sure store.path c.args.stores.items) (stores_seen store.held store.told store.faults store.sure store.path c.run_files-ended.result.1.items) c.in-Ok-begin_run.run' (g.I.InputFiles.told c.args.input.now) c.in-Ok-reader_of.reader began reader (err-at c.run_files-ended.result.0 c.in-Err-ended.error _ c.in-Err-ended.is c.run_files-ended.ensures.back)) c.in-Ok-begin_run.ensures.counted c.in-Ok-reader_of.reader never reader c.in-Err-ended.error (err-at c.run_files-ended.result.0 c.in-Err-ended.error _ c.in-Err-ended.is c.run_files-ended.ensures.cause))

pub returns-clause-of_run : goal.returns-clause-of_run
returns-clause-of_run g c =
    let store = g.S.SpillStore in
    let come = end-comes c.in-Ok-begin_run.run' (g.I.InputFiles.told c.args.input.now) c.in-Ok-reader_of.reader (stores_seen store.held store.told store.faults store.sure store.path c.run_files-ended.result.1.items) c.in-Err-ended.error (err-at c.run_files-ended.result.0 c.in-Err-ended.error _ c.in-Err-ended.is c.run_files-ended.ensures.cause) in
    rw c.file_fault.ensures (fault-of-run c.in-Err-ended.error come)

pub returns-clause-failed : goal.returns-clause-failed
returns-clause-failed g c =
    let store = g.S.SpillStore in
    let come = end-comes c.in-Ok-begin_run.run' (g.I.InputFiles.told c.args.input.now) c.in-Ok-reader_of.reader (stores_seen store.held store.told store.faults store.sure store.path c.run_files-ended.result.1.items) c.in-Err-ended.error (err-at c.run_files-ended.result.0 c.in-Err-ended.error _ c.in-Err-ended.is c.run_files-ended.ensures.cause) in
    λ is. (err-at c.run_files-ended.result.0 c.in-Err-ended.error _ c.in-Err-ended.is c.run_files-ended.ensures.failed) (input-fault c.in-Err-ended.error come (sym c.file_fault.ensures ∙ search (rules, is)))

pub returns-clause-stopped : goal.returns-clause-stopped
returns-clause-stopped g c =
    let store = g.S.SpillStore in
    let q = c.args.question.query in
    let n = c.in-Ok.ready in
    let covered : covers n.wanted.items (query_tree q) ≡ true = c.in-Ok.ensures.covered in
    let began = began-narrow store.held store.told store.faults store.sure store.path (plan_seen c.args.question.plan) q n.query n.wanted.items c.args.stores.items c.in-Ok-begin_run.run' c.requires.made c.requires.count c.requires.paths c.in-Ok.ensures.query c.in-Ok-begin_run.ensures.setting in
    let reader = reader-is (plan_seen c.args.question.plan) q n.wanted.items c.in-Ok-reader_of.reader n.schema c.in-Ok.ensures.schema c.in-Ok-reader_of.ensures.options c.in-Ok-reader_of.ensures.left in
    run-front (plan_seen c.args.question.plan) q n.wanted.items covered (stores_seen store.held store.told store.faults store.sure store.path c.args.stores.items) (stores_seen store.held store.told store.faults store.sure store.path c.run_files-ended.result.1.items) c.in-Ok-begin_run.run' began (g.I.InputFiles.told c.args.input.now) (left-read (plan_seen c.args.question.plan) q n.wanted.items (stores_seen store.held store.told store.faults store.sure store.path c.args.stores.items) (stores_seen store.held store.told store.faults store.sure store.path c.run_files-ended.result.1.items) c.in-Ok-begin_run.run' (g.I.InputFiles.told c.args.input.now) c.in-Ok-reader_of.reader began reader (err-at c.run_files-ended.result.0 c.in-Err-ended.error _ c.in-Err-ended.is c.run_files-ended.ensures.back))

pub returns-clause-in_memory : goal.returns-clause-in_memory
returns-clause-in_memory g c =
    let store = g.S.SpillStore in
    let q = c.args.question.query in
    let n = c.in-Ok.ready in
    let covered : covers n.wanted.items (query_tree q) ≡ true = c.in-Ok.ensures.covered in
    let began = began-narrow store.held store.told store.faults store.sure store.path (plan_seen c.args.question.plan) q n.query n.wanted.items c.args.stores.items c.in-Ok-begin_run.run' c.requires.made c.requires.count c.requires.paths c.in-Ok.ensures.query c.in-Ok-begin_run.ensures.setting in
    let reader = reader-is (plan_seen c.args.question.plan) q n.wanted.items c.in-Ok-reader_of.reader n.schema c.in-Ok.ensures.schema c.in-Ok-reader_of.ensures.options c.in-Ok-reader_of.ensures.left in
    let never = never-seen store.held store.told store.faults store.sure store.path store.never_failed c.run_files-ended.result.1.items in
    run-sound (plan_seen c.args.question.plan) q n.wanted.items covered (stores_seen store.held store.told store.faults store.sure store.path c.args.stores.items) (stores_seen store.held store.told store.faults store.sure store.path c.run_files-ended.result.1.items) c.in-Ok-begin_run.run' began (g.I.InputFiles.told c.args.input.now) (left-read (plan_seen c.args.question.plan) q n.wanted.items (stores_seen store.held store.told store.faults store.sure store.path c.args.stores.items) (stores_seen store.held store.told store.faults store.sure store.path c.run_files-ended.result.1.items) c.in-Ok-begin_run.run' (g.I.InputFiles.told c.args.input.now) c.in-Ok-reader_of.reader began reader (err-at c.run_files-ended.result.0 c.in-Err-ended.error _ c.in-Err-ended.is c.run_files-ended.ensures.back)) never

pub returns-in_default-clause-tried : goal.returns-in_default-clause-tried
returns-in_default-clause-tried g c = front-none _ _ (files_named (plan_seen c.args.question.plan).words) refl

pub returns-in-Err-clause-tried : goal.returns-in-Err-clause-tried
returns-in-Err-clause-tried g c = front-none _ _ (files_named (plan_seen c.args.question.plan).words) refl

pub returns-in_default-reader_of-clause-tried : goal.returns-in_default-reader_of-clause-tried
returns-in_default-reader_of-clause-tried g c = front-none _ _ (files_named (plan_seen c.args.question.plan).words) refl

pub returns-in-Ok-ended-clause-tried : goal.returns-in-Ok-ended-clause-tried
returns-in-Ok-ended-clause-tried g c =
    subst (TriedFront (g.I.InputFiles.tried c.args.input.now) (g.I.InputFiles.tried c.run_files-ended.new.input)) c.in-Ok-reader_of.ensures.names c.run_files-ended.ensures.tried

pub returns-clause-tried : goal.returns-clause-tried
returns-clause-tried g c =
    subst (TriedFront (g.I.InputFiles.tried c.args.input.now) (g.I.InputFiles.tried c.run_files-ended.new.input)) c.in-Ok-reader_of.ensures.names c.run_files-ended.ensures.tried

pub run_files-ended-requires-clause-lines : goal.run_files-ended-requires-clause-lines
run_files-ended-requires-clause-lines g c = λ lives bounds.
    let n = c.in-Ok.ready in
    let x = c.in-Ok-begin_run.run'.setting in
    lines-suit (plan_seen c.args.question.plan).format (lines_shape n.lines) n.query x c.in-Ok.ensures.lines (ap (λ (y : Setting). y.query) c.in-Ok-begin_run.ensures.setting)
