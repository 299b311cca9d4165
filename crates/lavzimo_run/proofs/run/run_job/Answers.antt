use Rattle.std.proofs.Common.{rules, refl}
use Rattle.pipe_io.proofs.TriedFacts.{front-none}
use Rattle.pipe_plan.specs.Stores.{stores_seen}
use Rattle.tool_run.specs.Answering.{AreFedOf, IsFrameFrom, IsRunEnd}
use Rattle.tool_run.specs.Answering as fed
use Rattle.lavzimo_run.specs.Jobs.{job_seen}
use Rattle.lavzimo_run.specs.Running.{HasRun, HasStopped, IsEnd}
use Rattle.lavzimo_run.proofs.RunFacts.{Began, ReadsJob, either-sound, has-run, has-stopped, if-both, if-err, if-ok, reads-job, run-ends, unbegun}
use Rattle.lavzimo_run.proofs.StoreFacts.{held-seen, job-fits, never-seen, seen-again}
use Rattle.lavzimo_run.proofs.run.run_job.Goals as goal

pub returns-in_default-clause-tried : goal.returns-in_default-clause-tried
returns-in_default-clause-tried g c = front-none _ _ c.args.job.files.items refl

pub returns-in_default-clause-stopped : goal.returns-in_default-clause-stopped
returns-in_default-clause-stopped g c =
    let store = g.S.SpillStore in
    let j = job_seen c.args.job in
    let made = stores_seen store.held store.told store.faults store.sure store.path c.args.stores.items in
    unbegun j c.args.job.query (g.I.InputFiles.told c.args.input.now) made made refl refl c.requires.made
    (held-seen store.held store.told store.faults store.sure store.path j c.args.stores.items (job-fits store.held store.told store.faults store.sure store.path j c.args.stores.items c.requires.runs c.requires.made))

pub begin_run-requires-clause-fits : goal.begin_run-requires-clause-fits
begin_run-requires-clause-fits g c κs within =
    let store = g.S.SpillStore in
    job-fits store.held store.told store.faults store.sure store.path (job_seen c.args.job) c.args.stores.items c.requires.runs c.requires.made

pub returns-in-Err-clause-tried : goal.returns-in-Err-clause-tried
returns-in-Err-clause-tried g c = front-none _ _ c.args.job.files.items refl

pub returns-in-Err-clause-stopped : goal.returns-in-Err-clause-stopped
returns-in-Err-clause-stopped g c =
    let store = g.S.SpillStore in
    let j = job_seen c.args.job in
    let made = stores_seen store.held store.told store.faults store.sure store.path c.args.stores.items in
    let now = stores_seen store.held store.told store.faults store.sure store.path c.in-Err.stores.items in
    unbegun j c.args.job.query (g.I.InputFiles.told c.args.input.now) made now refl (seen-again store.held store.told store.faults store.sure store.path c.in-Err.stores.items c.args.stores.items c.in-Err.ensures.back) c.requires.made
    (held-seen store.held store.told store.faults store.sure store.path j c.args.stores.items (job-fits store.held store.told store.faults store.sure store.path j c.args.stores.items c.requires.runs c.requires.made))

pub returns-clause-answered : goal.returns-clause-answered
returns-clause-answered g c =
    let store = g.S.SpillStore in
    let j = job_seen c.args.job in
    let made = stores_seen store.held store.told store.faults store.sure store.path c.args.stores.items in
    let now = stores_seen store.held store.told store.faults store.sure store.path c.run_files_to_frame.result.1.items in
    let s = c.in-Ok-begin_run.run' in
    let told = g.I.InputFiles.told c.args.input.now in
    let reader = c.by_name-reader.result in
    let began : Began j c.args.job.query made s = record { query = refl; new = c.requires.made; setting = search rules; counted = c.in-Ok-begin_run.ensures.counted } in
    let reads : ReadsJob j reader = reads-job j reader _ _ _ c.by_name-reader.ensures.left refl (search rules) (search rules) in
    if-ok c.run_files_to_frame.result.0 (λ out. IsFrameFrom s.setting told reader out now) (λ out. HasRun j told out now)
    (λ out frame. has-run j c.args.job.query made s began told reader out now reads frame) c.run_files_to_frame.ensures.answered

pub returns-clause-cause : goal.returns-clause-cause
returns-clause-cause g c =
    let store = g.S.SpillStore in
    let j = job_seen c.args.job in
    let made = stores_seen store.held store.told store.faults store.sure store.path c.args.stores.items in
    let now = stores_seen store.held store.told store.faults store.sure store.path c.run_files_to_frame.result.1.items in
    let s = c.in-Ok-begin_run.run' in
    let told = g.I.InputFiles.told c.args.input.now in
    let reader = c.by_name-reader.result in
    let began : Began j c.args.job.query made s = record { query = refl; new = c.requires.made; setting = search rules; counted = c.in-Ok-begin_run.ensures.counted } in
    let reads : ReadsJob j reader = reads-job j reader _ _ _ c.by_name-reader.ensures.left refl (search rules) (search rules) in
    if-both c.run_files_to_frame.result.0 (λ _. fed.HaveFront s.setting (AreFedOf told reader) now) (λ e. IsRunEnd s told reader now e) (λ e. IsEnd e j told now)
    (λ e front end. run-ends j c.args.job.query made now s began told reader reads front
    (never-seen store.held store.told store.faults store.sure store.path store.never_failed c.run_files_to_frame.result.1.items) e end)
    c.run_files_to_frame.ensures.back c.run_files_to_frame.ensures.cause

pub returns-clause-stopped : goal.returns-clause-stopped
returns-clause-stopped g c =
    let store = g.S.SpillStore in
    let j = job_seen c.args.job in
    let made = stores_seen store.held store.told store.faults store.sure store.path c.args.stores.items in
    let now = stores_seen store.held store.told store.faults store.sure store.path c.run_files_to_frame.result.1.items in
    let s = c.in-Ok-begin_run.run' in
    let told = g.I.InputFiles.told c.args.input.now in
    let reader = c.by_name-reader.result in
    let began : Began j c.args.job.query made s = record { query = refl; new = c.requires.made; setting = search rules; counted = c.in-Ok-begin_run.ensures.counted } in
    let reads : ReadsJob j reader = reads-job j reader _ _ _ c.by_name-reader.ensures.left refl (search rules) (search rules) in
    if-err c.run_files_to_frame.result.0 (λ _. fed.HaveFront s.setting (AreFedOf told reader) now) (λ _. HasStopped j told now)
    (λ e front. has-stopped j c.args.job.query made s began told reader now reads front) c.run_files_to_frame.ensures.back

pub returns-clause-in_memory : goal.returns-clause-in_memory
returns-clause-in_memory g c none =
    let store = g.S.SpillStore in
    let j = job_seen c.args.job in
    let made = stores_seen store.held store.told store.faults store.sure store.path c.args.stores.items in
    let now = stores_seen store.held store.told store.faults store.sure store.path c.run_files_to_frame.result.1.items in
    let s = c.in-Ok-begin_run.run' in
    let told = g.I.InputFiles.told c.args.input.now in
    let reader = c.by_name-reader.result in
    let began : Began j c.args.job.query made s = record { query = refl; new = c.requires.made; setting = search rules; counted = c.in-Ok-begin_run.ensures.counted } in
    let reads : ReadsJob j reader = reads-job j reader _ _ _ c.by_name-reader.ensures.left refl (search rules) (search rules) in
    either-sound j told now c.run_files_to_frame.result.0
    (if-ok c.run_files_to_frame.result.0 (λ out. IsFrameFrom s.setting told reader out now) (λ out. HasRun j told out now)
    (λ out frame. has-run j c.args.job.query made s began told reader out now reads frame) c.run_files_to_frame.ensures.answered)
    (if-err c.run_files_to_frame.result.0 (λ _. fed.HaveFront s.setting (AreFedOf told reader) now) (λ _. HasStopped j told now)
    (λ e front. has-stopped j c.args.job.query made s began told reader now reads front) c.run_files_to_frame.ensures.back)
    (never-seen store.held store.told store.faults store.sure store.path store.never_failed c.run_files_to_frame.result.1.items) none
