use Rattle.std.proofs.Common.{rules, ◌≡◌, ◌∷◌, ◌++◌, [], List, map}
use Rattle.std.proofs.lemmas.List.Elements.{All-rest}
use Rattle.std.specs.Vec.Iter.{into_iter_items}
use Rattle.pipe_sinks.specs.Runs.{Run}
use Rattle.pipe_group_by.specs.Jobs.{sink_job}
use Rattle.pipe_group_by.proofs.Rounds.{made-more}
use Rattle.pipe_group_by.proofs.typed_round.jobs_of.Goals as goal

pub loop-sink-preserved : goal.loop-sink-preserved
loop-sink-preserved c =
    let old : List Run = into_iter_items c.loop-sink.sink-iterator in
    let new : List Run = into_iter_items c.next.new.self in
    let items : old ≡ c.in-Some.sink ∷ new = search rules in
    let job : c.new.result ≡ sink_job c.in-Some.sink = search rules in
    let pushed : c.push.new.self.items ≡ c.loop-sink.jobs.items ++ c.new.result ∷ [] = search rules in (
      tt,
      tt,
      All-rest (λ (s : Run). c.args.query.now ≡ s.query) c.in-Some.sink new old items c.loop-sink.invariant.2,
      made-more sink_job c.loop-sink.jobs.items c.push.new.self.items c.in-Some.sink c.new.result old new (map sink_job c.args.sinks.items) items pushed job c.loop-sink.invariant.3,
    )
