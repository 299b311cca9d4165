use Rattle.std.proofs.Common.{◌≡◌, ◌∙◌, ℕ, List, arith, length, map, sym, ap, subst}
use Rattle.std.proofs.lemmas.List.{length-map}
use Rattle.pipe_aggs.specs.QueryTrees.{query_tree}
use Rattle.pipe_plan.specs.declared.event.SpillAction.{SpillAction}
use Rattle.pipe_plan.specs.Run.{Run}
use Rattle.pipe_global.specs.Partition.{IsRunnable, PartitionSeen}
use Rattle.pipe_global.specs.Resuming.{AreResumed, AreTakenOver}
use Rattle.pipe_workers.specs.declared.paused.PausedWorker.{PausedWorker}
use Rattle.pipe_workers.specs.Rounds.{IsRoundOf, RoundSeen}
use Rattle.pipe_workers.specs.Workers.{TakesTurns}
use Rattle.pipe_aggs.specs.CheckedQuery.{IsSound}
use Rattle.pipe_run.specs.Fed.{AllStand, AreCounted}
use Rattle.pipe_run.specs.Setting.{Setting}
use Rattle.pipe_run.specs.Rounds.{StandReady}
use Rattle.pipe_run.proofs.Taking.{take-counted, take-over, take-ready, take-round, take-runnable, take-stand, take-turns}
use Rattle.pipe_run.proofs.round_of.round_named.Goals as goal

pub returns-in_default-clause-back : goal.returns-in_default-clause-back
returns-in_default-clause-back g c =
    subst (λ (r : Run). AllStand r c.args.closed.items) (sym c.requires.run) (take-stand c.args.begun.now c.args.is_open (map (λ s. s.value) c.args.taken.now) c.args.chunks.now c.args.closed.items c.args.rested.items c.requires.fed)

pub resume-requires-clause-run : goal.resume-requires-clause-run
resume-requires-clause-run g c =
    subst IsRunnable (sym c.requires.run) (take-runnable c.args.begun.now c.args.is_open (map (λ s. s.value) c.args.taken.now) c.args.chunks.now c.args.closed.items c.args.rested.items c.requires.fed (subst (λ (v : Setting). IsSound v.query) c.begun.view_is c.query-query.ensures.sound) c.requires.chunks)

pub resume-requires-clause-taken : goal.resume-requires-clause-taken
resume-requires-clause-taken g c =
    subst (λ (r : Run). AreTakenOver r c.args.closed.items) (sym c.requires.run) (take-over c.args.begun.now c.args.is_open (map (λ s. s.value) c.args.taken.now) c.args.chunks.now c.args.closed.items c.args.rested.items c.requires.fed)

pub drive-requires-clause-run : goal.drive-requires-clause-run
drive-requires-clause-run g c = λ κs lives.
    subst TakesTurns (sym c.requires.run) (take-turns c.args.begun.now c.args.is_open (map (λ s. s.value) c.args.taken.now) c.args.chunks.now c.args.closed.items c.args.rested.items c.requires.fed c.requires.generic (subst (λ (v : Setting). IsSound v.query) c.begun.view_is c.query-query.ensures.sound) c.requires.chunks)

pub drive-requires-clause-round : goal.drive-requires-clause-round
drive-requires-clause-round g c = λ κs lives.
    let at : c.new-round.result ≡ record { first = length c.args.taken.now; chunks = c.args.chunks.now; actions = c.args.begun.now.actions; rules = c.args.begun.now.rules; is_open = c.args.is_open } =
    c.new-round.ensures
    ∙ ap (λ (acts : List (List SpillAction)). record { first = length c.args.taken.now; chunks = c.args.chunks.now; actions = acts; rules = c.rules-rules.result.now; is_open = c.args.is_open }) c.actions-actions.ensures
    ∙ ap (λ (l : List SpillAction). record { first = length c.args.taken.now; chunks = c.args.chunks.now; actions = c.args.begun.now.actions; rules = l; is_open = c.args.is_open }) c.rules-rules.ensures in
    subst (λ (r : Run). IsRoundOf r c.new-round.result) (sym c.requires.run)
    (subst (λ (x : RoundSeen). IsRoundOf (Rattle.pipe_run.proofs.Taking.run c.args.begun.now c.args.is_open (map (λ s. s.value) c.args.taken.now) c.args.chunks.now c.args.closed.items c.args.rested.items c.requires.fed) x) (sym at) (take-round c.args.begun.now c.args.is_open (map (λ s. s.value) c.args.taken.now) c.args.chunks.now c.args.closed.items c.args.rested.items c.requires.fed (length c.args.taken.now) (sym (length-map c.args.taken.now (λ s. s.value)))))

pub drive-requires-clause-ready : goal.drive-requires-clause-ready
drive-requires-clause-ready g c = λ κs lives.
    let first : length (map (λ s. s.value) c.args.taken.now) ≡ c.new-round.result.first = length-map c.args.taken.now (λ s. s.value) ∙ sym (ap (λ (x : RoundSeen). x.first) c.new-round.ensures) in
    let long : length c.in-Ok-resume.shares.items ≡ g.R.Naming.run.limits.workers = omega (arith, c.in-Ok-resume.shares.ok.0, c.in-Ok-resume.ensures.len) in
    let count : length c.in-Ok-resume.shares.items ≡ c.args.begun.now.limits.workers = long ∙ ap (λ (r : Run). r.limits.workers) c.requires.run in
    let resumed : AreResumed c.args.closed.items (map (λ (x : PausedWorker). x.picks) c.args.rested.items) c.in-Ok-resume.shares.items =
    subst (λ (ps : List ℕ). AreResumed c.args.closed.items ps c.in-Ok-resume.shares.items) (c.deref-2.ensures.value ∙ c.in-Ok.ensures.picks ∙ ap (λ (l : List PausedWorker). map (λ x. x.picks) l) c.deref.ensures.value) c.in-Ok-resume.ensures.shares in
    subst (λ (r : Run). StandReady r c.new-round.result.first c.args.rested.items c.in-Ok-resume.shares.items) (sym c.requires.run)
    (subst (λ n. StandReady (Rattle.pipe_run.proofs.Taking.run c.args.begun.now c.args.is_open (map (λ s. s.value) c.args.taken.now) c.args.chunks.now c.args.closed.items c.args.rested.items c.requires.fed) n c.args.rested.items c.in-Ok-resume.shares.items) first
    (take-ready c.args.begun.now c.args.is_open (map (λ s. s.value) c.args.taken.now) c.args.chunks.now c.args.closed.items c.args.rested.items c.requires.fed c.in-Ok-resume.shares.items c.requires.generic count resumed))

pub returns-in-Err-clause-back : goal.returns-in-Err-clause-back
returns-in-Err-clause-back g c =
    subst (λ (l : List PartitionSeen). AllStand g.R.Naming.run l) (sym c.in-Err.ensures.back) (subst (λ (r : Run). AllStand r c.args.closed.items) (sym c.requires.run) (take-stand c.args.begun.now c.args.is_open (map (λ s. s.value) c.args.taken.now) c.args.chunks.now c.args.closed.items c.args.rested.items c.requires.fed))

pub resume-requires-clause-partitions : goal.resume-requires-clause-partitions
resume-requires-clause-partitions g c = (c.requires.partitions.0, c.requires.partitions.1 ∙ sym (ap (λ (r : Run). r.limits.partitions) c.requires.run))

pub resume-requires-clause-workers : goal.resume-requires-clause-workers
resume-requires-clause-workers g c = (c.requires.workers.0, c.requires.workers.1 ∙ sym (ap (λ (r : Run). r.limits.workers) c.requires.run))

pub resume-requires-clause-refusals : goal.resume-requires-clause-refusals
resume-requires-clause-refusals g c = (c.requires.refusals.0, c.requires.refusals.1 ∙ sym (ap (λ (r : Run). r.limits.partitions) c.requires.run))

pub resume-requires-clause-faults : goal.resume-requires-clause-faults
resume-requires-clause-faults g c = (c.requires.faults.0, c.requires.faults.1 ∙ sym (ap (λ (r : Run). r.limits.workers) c.requires.run))

pub resume-requires-clause-query : goal.resume-requires-clause-query
resume-requires-clause-query g c = ap (λ (r : Run). r.query) c.requires.run ∙ sym (ap (λ (v : Setting). query_tree v.query) c.begun.view_is)

pub resume-requires-clause-count : goal.resume-requires-clause-count
resume-requires-clause-count g c = omega (arith, c.args.closed.ok.0, c.requires.fed.partitions.count, ap (λ (r : Run). r.limits.partitions) c.requires.run)

pub resume-requires-clause-numbers : goal.resume-requires-clause-numbers
resume-requires-clause-numbers g c =
    let picks : c.deref-2.result.now ≡ map (λ (x : PausedWorker). x.picks) c.args.rested.items = c.deref-2.ensures.value ∙ c.in-Ok.ensures.picks ∙ ap (λ (l : List PausedWorker). map (λ x. x.picks) l) c.deref.ensures.value in (
      ap (λ (r : Run). r.limits.workers) c.requires.run ∙ sym c.requires.fed.workers.count ∙ sym (length-map c.args.rested.items (λ (x : PausedWorker). x.picks)) ∙ sym (ap (λ (l : List ℕ). length l) picks),
      ap (λ (r : Run). r.limits.payload_limit) c.requires.run ∙ sym (ap (λ (v : Setting). v.limits.payload_limit) c.begun.view_is),
    )

pub drive-requires-clause-query : goal.drive-requires-clause-query
drive-requires-clause-query g c = λ κs lives. ap (λ (r : Run). r.query) c.requires.run ∙ sym (ap (λ (v : Setting). query_tree v.query) c.begun.view_is)

pub drive-requires-clause-limits : goal.drive-requires-clause-limits
drive-requires-clause-limits g c = λ κs lives. ap (λ (r : Run). r.limits) c.requires.run ∙ sym (ap (λ (v : Setting). v.limits) c.begun.view_is)

pub drive-requires-clause-shares : goal.drive-requires-clause-shares
drive-requires-clause-shares g c = λ κs lives. c.in-Ok-resume.ensures.len

pub drive-requires-clause-rested : goal.drive-requires-clause-rested
drive-requires-clause-rested g c = λ κs lives. omega (arith, c.args.rested.ok.0, c.requires.fed.workers.count, ap (λ (r : Run). r.limits.workers) c.requires.run)

pub returns-in_default-clause-memory : goal.returns-in_default-clause-memory
returns-in_default-clause-memory g c = λ _.
    subst (λ (r : Run). AreCounted r c.args.closed.items) (sym c.requires.run) (take-counted c.args.begun.now c.args.is_open (map (λ s. s.value) c.args.taken.now) c.args.chunks.now c.args.closed.items c.args.rested.items c.requires.fed)

pub returns-in-Err-clause-memory : goal.returns-in-Err-clause-memory
returns-in-Err-clause-memory g c = λ _.
    subst (λ (l : List PartitionSeen). AreCounted g.R.Naming.run l) (sym c.in-Err.ensures.back) (subst (λ (r : Run). AreCounted r c.args.closed.items) (sym c.requires.run) (take-counted c.args.begun.now c.args.is_open (map (λ s. s.value) c.args.taken.now) c.args.chunks.now c.args.closed.items c.args.rested.items c.requires.fed))
