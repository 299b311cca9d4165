use Rattle.std.proofs.Common.{rules, ◌≡◌, ◌∷◌, ◌++◌, [], List, false, map}
use Rattle.std.proofs.lemmas.List.Elements.{All-cons, All-same}
use Rattle.std.specs.Vec.Iter.{into_iter_items}
use Rattle.pipe_group_by.specs.Jobs.{SinkJobSeen}
use Rattle.pipe_group_by.proofs.Rounds.{made-more}
use Rattle.pipe_group_by.proofs.typed_round.gather.Goals as goal

pub loop-job-preserved : goal.loop-job-preserved
loop-job-preserved c =
    let old : List SinkJobSeen = into_iter_items c.loop-job.job-iterator in
    let new : List SinkJobSeen = into_iter_items c.next.new.self in
    let items : old ≡ c.in-Some.job ∷ new = search rules in
    let on : c.in-Some.job.refused ≡ false = search rules in
    let rests : c.in_ok-rest.field-0 ≡ c.in-Some.job.sink = search rules in
    let pushed : c.push.new.self.items ≡ c.loop-job.sinks.items ++ c.in_ok-rest.field-0 ∷ [] = search rules in (
      tt,
      tt,
      made-more (λ (j : SinkJobSeen). j.sink) c.loop-job.sinks.items c.push.new.self.items c.in-Some.job c.in_ok-rest.field-0 old new (map (λ (j : SinkJobSeen). j.sink) c.args.jobs.items) items pushed rests c.loop-job.invariant.2,
      λ all. c.loop-job.invariant.3 (All-same (λ (j : SinkJobSeen). j.refused ≡ false) old (c.in-Some.job ∷ new) items (All-cons (λ (j : SinkJobSeen). j.refused ≡ false) c.in-Some.job new on all)),
    )
