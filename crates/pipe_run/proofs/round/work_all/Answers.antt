use Rattle.std.proofs.Common.{rules, ◌≡◌, ◌∙◌, ap, arith, length, List, sym, vec_len}
use Rattle.std.proofs.lemmas.List.{length-map}
use Rattle.pipe_global.specs.Shares.{SharesSeen}
use Rattle.pipe_workers.specs.Rounds.{JobSeen}
use Rattle.pipe_run.specs.Rounds.{shares_of}
use Rattle.pipe_run.proofs.Ended.{all-ended, all-whole}
use Rattle.pipe_run.proofs.Ready.{jobs-long, jobs-ready}
use Rattle.pipe_run.proofs.round.work_all.Goals as goal

pub work_round-jobs-requires-clause-some : goal.work_round-jobs-requires-clause-some
work_round-jobs-requires-clause-some g c =
    let count : length c.jobs_of-jobs.result.items ≡ vec_len c.jobs_of-jobs.result = search rules in
    let shares : length c.args.shares.items ≡ g.R.Naming.run.limits.workers = search rules in
    let rests : length c.args.rested.items ≡ g.R.Naming.run.limits.workers = search rules in
    let long = ap (λ (l : List JobSeen). length l) c.jobs_of-jobs.ensures ∙ jobs-long c.args.rested.items c.args.shares.items (rests ∙ sym shares) in
    omega (arith, count, shares, long, c.requires.run.runnable.limits.workers)

pub work_round-jobs-requires-clause-ready : goal.work_round-jobs-requires-clause-ready
work_round-jobs-requires-clause-ready g c =
    let count : length c.jobs_of-jobs.result.items ≡ vec_len c.jobs_of-jobs.result = search rules in
    let shares : length c.args.shares.items ≡ g.R.Naming.run.limits.workers = search rules in
    let rests : length c.args.rested.items ≡ g.R.Naming.run.limits.workers = search rules in
    λ κs lives k d lt. jobs-ready g.R.Naming.run c.args.round.now.first c.args.rested.items c.args.shares.items c.jobs_of-jobs.result.items c.jobs_of-jobs.ensures (rests ∙ sym shares) c.requires.ready k d (omega (arith, lt, count))

pub gather-requires-clause-shares : goal.gather-requires-clause-shares
gather-requires-clause-shares g c =
    let count : length c.jobs_of-jobs.result.items ≡ vec_len c.jobs_of-jobs.result = search rules in
    let shares : length c.args.shares.items ≡ g.R.Naming.run.limits.workers = search rules in
    let rests : length c.args.rested.items ≡ g.R.Naming.run.limits.workers = search rules in
    let long = ap (λ (l : List JobSeen). length l) c.jobs_of-jobs.ensures ∙ jobs-long c.args.rested.items c.args.shares.items (rests ∙ sym shares) in
    (c.requires.shares_room.0, omega (arith, count, shares, long, c.work_round-jobs.ensures.len, c.requires.shares_room.1))

pub gather-requires-clause-rested : goal.gather-requires-clause-rested
gather-requires-clause-rested g c =
    let count : length c.jobs_of-jobs.result.items ≡ vec_len c.jobs_of-jobs.result = search rules in
    let shares : length c.args.shares.items ≡ g.R.Naming.run.limits.workers = search rules in
    let rests : length c.args.rested.items ≡ g.R.Naming.run.limits.workers = search rules in
    let long = ap (λ (l : List JobSeen). length l) c.jobs_of-jobs.ensures ∙ jobs-long c.args.rested.items c.args.shares.items (rests ∙ sym shares) in
    (c.requires.rested_room.0, omega (arith, count, shares, long, c.work_round-jobs.ensures.len, c.requires.rested_room.1))

pub returns-clause-len : goal.returns-clause-len
returns-clause-len g c =
    let count : length c.jobs_of-jobs.result.items ≡ vec_len c.jobs_of-jobs.result = search rules in
    let done : length c.work_round-jobs.result.items ≡ vec_len c.work_round-jobs.result = search rules in
    let given : length c.gather.result.shares.items ≡ vec_len c.gather.result.shares = search rules in
    let shares : length c.args.shares.items ≡ g.R.Naming.run.limits.workers = search rules in
    let rests : length c.args.rested.items ≡ g.R.Naming.run.limits.workers = search rules in
    let long = ap (λ (l : List JobSeen). length l) c.jobs_of-jobs.ensures ∙ jobs-long c.args.rested.items c.args.shares.items (rests ∙ sym shares) in
    omega (arith, count, done, given, shares, long, c.work_round-jobs.ensures.len, ap (λ (l : List SharesSeen). length l) c.gather.ensures.shares, length-map c.work_round-jobs.result.items shares_of)

pub returns-clause-whole : goal.returns-clause-whole
returns-clause-whole g c = λ all.
    let count : length c.jobs_of-jobs.result.items ≡ vec_len c.jobs_of-jobs.result = search rules in
    let done : length c.work_round-jobs.result.items ≡ vec_len c.work_round-jobs.result = search rules in
    let shares : length c.args.shares.items ≡ g.R.Naming.run.limits.workers = search rules in
    let rests : length c.args.rested.items ≡ g.R.Naming.run.limits.workers = search rules in
    let long = ap (λ (l : List JobSeen). length l) c.jobs_of-jobs.ensures ∙ jobs-long c.args.rested.items c.args.shares.items (rests ∙ sym shares) in
    let workers : length c.work_round-jobs.result.items ≡ g.R.Naming.run.limits.workers = omega (arith, count, done, shares, long, c.work_round-jobs.ensures.len) in
    all-whole g.R.Naming.run c.work_round-jobs.result.items c.requires.run.runnable.limits.workers c.requires.run.generic workers (λ w d lt. c.work_round-jobs.ensures.ended w d (omega (arith, lt, done)))
    c.gather.result.shares.items c.gather.ensures.shares c.gather.ensures.events (sym c.gather.ensures.all ∙ all)

pub returns-clause-ended : goal.returns-clause-ended
returns-clause-ended g c = λ all.
    let count : length c.jobs_of-jobs.result.items ≡ vec_len c.jobs_of-jobs.result = search rules in
    let done : length c.work_round-jobs.result.items ≡ vec_len c.work_round-jobs.result = search rules in
    let shares : length c.args.shares.items ≡ g.R.Naming.run.limits.workers = search rules in
    let rests : length c.args.rested.items ≡ g.R.Naming.run.limits.workers = search rules in
    let long = ap (λ (l : List JobSeen). length l) c.jobs_of-jobs.ensures ∙ jobs-long c.args.rested.items c.args.shares.items (rests ∙ sym shares) in
    let workers : length c.work_round-jobs.result.items ≡ g.R.Naming.run.limits.workers = omega (arith, count, done, shares, long, c.work_round-jobs.ensures.len) in
    all-ended g.R.Naming.run c.work_round-jobs.result.items c.requires.run.runnable.limits.workers c.requires.run.generic workers (λ w d lt. c.work_round-jobs.ensures.ended w d (omega (arith, lt, done)))
    c.gather.result.rested.items c.gather.ensures.rested (sym c.gather.ensures.all ∙ all)
