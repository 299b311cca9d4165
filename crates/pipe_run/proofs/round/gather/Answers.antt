use Rattle.std.proofs.Common.{rules, ◌≡◌, ◌∙◌, ◌&&◌, ◌∷◌, ◌++◌, [], List, arith, ap, length, map, subst, sym}
use Rattle.std.specs.List.{All, list_all}
use Rattle.std.proofs.lemmas.List.Elements.{All-nil, All-push}
use Rattle.std.specs.Vec.Iter.{into_iter_items}
use Rattle.pipe_global.specs.Shares.{SharesSeen}
use Rattle.pipe_workers.specs.Rounds.{JobSeen}
use Rattle.pipe_run.specs.Rounds.{has_gone_on, paused_of, shares_of}
use Rattle.pipe_asked.proofs.Lists.{built-more, none-left, passed-more}
use Rattle.pipe_run.proofs.round.gather.Goals as goal

pub loop-job-preserved : goal.loop-job-preserved
loop-job-preserved g c =
    let old : List JobSeen = into_iter_items c.loop-job.job-iterator in
    let new : List JobSeen = into_iter_items c.next.new.self in
    let items : old ≡ c.in-Some.job ∷ new = c.in-Some.ensures.steps.0 in
    let shares_are : c.pause-paused.result.1 ≡ shares_of c.in-Some.job = search rules in
    let rest_is : c.pause-paused.result.0 ≡ paused_of c.in-Some.job = search rules in
    let on : c.is_none-all.result ≡ has_gone_on c.in-Some.job = search rules in
    let size = ap (λ (l : List JobSeen). length l) items in (
      tt,
      tt,
      omega (arith, size, c.push_reserved.ensures.len, c.loop-job.invariant.2),
      omega (arith, size, c.push_reserved-in-loop-job.ensures.len, c.loop-job.invariant.3),
      omega (arith, c.push_reserved.ensures.capacity, c.loop-job.invariant.4),
      omega (arith, c.push_reserved-in-loop-job.ensures.capacity, c.loop-job.invariant.5),
      built-more shares_of c.loop-job.shares.items c.push_reserved.new.self.items c.pause-paused.result.1 c.in-Some.job old new (map shares_of c.args.jobs.items) items c.push_reserved.ensures.items shares_are c.loop-job.invariant.6,
      built-more paused_of c.loop-job.rested.items c.push_reserved-in-loop-job.new.self.items c.pause-paused.result.0 c.in-Some.job old new (map paused_of c.args.jobs.items) items c.push_reserved-in-loop-job.ensures.items rest_is c.loop-job.invariant.7,
      ap (λ b. (c.loop-job.all && b) && list_all has_gone_on new) on ∙ passed-more has_gone_on c.loop-job.all c.in-Some.job old new (list_all has_gone_on c.args.jobs.items) items c.loop-job.invariant.8,
      subst (All (λ (x : SharesSeen). length x.events ≡ g.R.Naming.run.limits.partitions)) (sym c.push_reserved.ensures.items)
          (All-push (λ (x : SharesSeen). length x.events ≡ g.R.Naming.run.limits.partitions) c.loop-job.shares.items c.pause-paused.result.1 c.loop-job.invariant.9 c.worker-worker.ensures.shares),
    )

pub loop-job-init : goal.loop-job-init
loop-job-init g c =
    let iter : List JobSeen = into_iter_items c.into_iter-job-iterator.result in
    let gives : iter ≡ c.args.jobs.items = c.into_iter-job-iterator.ensures.into_iter_gives.0 in
    let size = ap (λ (l : List JobSeen). length l) gives in
    let no_shares : c.args.rooms.shares.items ≡ [] = none-left c.args.rooms.shares.items (sym c.args.rooms.shares.ok.0 ∙ c.requires.shares.0) in
    let no_rested : c.args.rooms.rested.items ≡ [] = none-left c.args.rooms.rested.items (sym c.args.rooms.rested.ok.0 ∙ c.requires.rested.0) in
    let counted = λ (x : SharesSeen). length x.events ≡ g.R.Naming.run.limits.partitions in (
      tt,
      tt,
      omega (arith, c.requires.shares, size, c.args.jobs.ok.0),
      omega (arith, c.requires.rested, size, c.args.jobs.ok.0),
      c.requires.shares.1,
      c.requires.rested.1,
      ap (λ l. l ++ map shares_of iter) no_shares ∙ ap (map shares_of) gives,
      ap (λ l. l ++ map paused_of iter) no_rested ∙ ap (map paused_of) gives,
      ap (list_all has_gone_on) gives,
      subst (All counted) (sym no_shares) (All-nil counted),
    )

pub push_reserved-requires : goal.push_reserved-requires
push_reserved-requires g c = omega (arith, ap (λ (l : List JobSeen). length l) c.in-Some.ensures.steps.0, c.loop-job.invariant.2, c.loop-job.invariant.4)

pub push_reserved-requires-in-loop-job : goal.push_reserved-requires-in-loop-job
push_reserved-requires-in-loop-job g c = omega (arith, ap (λ (l : List JobSeen). length l) c.in-Some.ensures.steps.0, c.loop-job.invariant.3, c.loop-job.invariant.5)

pub loop-job-smaller : goal.loop-job-smaller
loop-job-smaller g c = omega (arith, ap (λ (l : List JobSeen). length l) c.in-Some.ensures.steps.0, c.next.new.self.rest.ok.0, c.loop-job.job-iterator.rest.ok.0)
