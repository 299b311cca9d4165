use Rattle.std.proofs.Common.{◌∙◌, ◌++◌, map, sym}
use Rattle.pipe_run.specs.Setting.{run_over}
use Rattle.pipe_run.proofs.Leaving.{counted-on, ended-uncounted, rose-uncounted, stand-uncounted, whole-uncounted}
use Rattle.pipe_run.proofs.Taking.{faults_of, same}
use Rattle.pipe_run.proofs.round_of.round.Goals as goal

pub returns-in-Ok-clause-whole : goal.returns-in-Ok-clause-whole
returns-in-Ok-clause-whole g c =
    whole-uncounted (run_over c.args.begun.now c.args.is_open (map (λ s. s.value) c.args.taken.now ++ c.args.chunks.now)) (faults_of c.args.closed.items) (same c.args.begun.now c.args.is_open (map (λ s. s.value) c.args.taken.now) c.args.chunks.now c.args.closed.items c.args.rested.items c.requires.fed) c.in-Ok.ended.closed.items c.in-Ok.ensures.whole

pub returns-in-Ok-clause-ended : goal.returns-in-Ok-clause-ended
returns-in-Ok-clause-ended g c =
    ended-uncounted (run_over c.args.begun.now c.args.is_open (map (λ s. s.value) c.args.taken.now ++ c.args.chunks.now)) (faults_of c.args.closed.items) (same c.args.begun.now c.args.is_open (map (λ s. s.value) c.args.taken.now) c.args.chunks.now c.args.closed.items c.args.rested.items c.requires.fed) c.in-Ok.ended.rested.items c.in-Ok.ensures.ended

pub returns-in-Err-clause-back : goal.returns-in-Err-clause-back
returns-in-Err-clause-back g c =
    stand-uncounted (run_over c.args.begun.now c.args.is_open (map (λ s. s.value) c.args.taken.now ++ c.args.chunks.now)) (faults_of c.args.closed.items) (same c.args.begun.now c.args.is_open (map (λ s. s.value) c.args.taken.now) c.args.chunks.now c.args.closed.items c.args.rested.items c.requires.fed) c.in-Err.refusal.1.items c.in-Err.ensures.back

pub returns-in-Err-clause-store : goal.returns-in-Err-clause-store
returns-in-Err-clause-store g c =
    λ p is. rose-uncounted (run_over c.args.begun.now c.args.is_open (map (λ s. s.value) c.args.taken.now ++ c.args.chunks.now)) c.args.closed.items c.in-Err.refusal.1.items p (c.requires.fed.partitions.count ∙ sym c.requires.fed.run.stores) c.requires.fed.run.stores (c.in-Err.ensures.store p is)

pub returns-in-Ok-clause-counted : goal.returns-in-Ok-clause-counted
returns-in-Ok-clause-counted g c =
    let r = run_over c.args.begun.now c.args.is_open (map (λ s. s.value) c.args.taken.now ++ c.args.chunks.now) in
    counted-on r c.args.closed.items c.in-Ok.ended.closed.items (c.requires.fed.partitions.count ∙ sym c.requires.fed.run.stores) (c.in-Ok.ensures.whole.count ∙ sym c.requires.fed.partitions.count) c.in-Ok.ensures.counted

pub returns-in-Err-clause-memory : goal.returns-in-Err-clause-memory
returns-in-Err-clause-memory g c =
    λ is.
    let r = run_over c.args.begun.now c.args.is_open (map (λ s. s.value) c.args.taken.now ++ c.args.chunks.now) in
    counted-on r c.args.closed.items c.in-Err.refusal.1.items (c.requires.fed.partitions.count ∙ sym c.requires.fed.run.stores) (c.in-Err.ensures.back.count ∙ sym c.requires.fed.partitions.count) (c.in-Err.ensures.memory is)
