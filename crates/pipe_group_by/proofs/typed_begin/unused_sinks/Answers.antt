use Rattle.std.proofs.Common.{rules, ◌≡◌, ◌+◌, ◌∷◌, ◌++◌, [], arith, subst, sym, vec_len}
use Rattle.std.specs.List.{All}
use Rattle.std.proofs.lemmas.List.Elements.{All-push}
use Rattle.pipe_sinks.specs.Runs.{Run}
use Rattle.pipe_group_by.proofs.typed_begin.unused_sinks.Goals as goal

pub loop-worker-preserved : goal.loop-worker-preserved
loop-worker-preserved c =
    let made : c.push.new.self.items ≡ c.loop-worker.sinks.items ++ c.pause.result ∷ [] = search rules in
    let more : vec_len c.push.new.self ≡ vec_len c.loop-worker.sinks + 1 = search rules in
    let unused : c.pause.result ≡ record { query = c.args.query.now; partitions = c.args.partitions; taken = [] } = search rules in (
      omega (arith, more, c.loop-worker.invariant.0),
      subst (All (λ (s : Run). s ≡ record { query = c.args.query.now; partitions = c.args.partitions; taken = [] })) (sym made)
          (All-push (λ (s : Run). s ≡ record { query = c.args.query.now; partitions = c.args.partitions; taken = [] }) c.loop-worker.sinks.items c.pause.result c.loop-worker.invariant.1 unused),
    )
