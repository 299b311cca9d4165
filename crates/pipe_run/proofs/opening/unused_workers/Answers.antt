use Rattle.std.proofs.Common.{rules, ◌≡◌, ◌+◌, ◌++◌, ◌∷◌, [], arith, subst, sym, vec_len}
use Rattle.std.specs.List.{All}
use Rattle.std.proofs.lemmas.List.Elements.{All-push}
use Rattle.pipe_aggs.specs.QueryTrees.{query_tree}
use Rattle.pipe_groups.specs.Shape.{shape_of}
use Rattle.pipe_run.specs.Fed.{IsUnused}
use Rattle.pipe_run.proofs.opening.unused_workers.Goals as goal

pub loop-worker-preserved : goal.loop-worker-preserved
loop-worker-preserved c =
    let is = IsUnused c.args.limits.now (shape_of (query_tree c.args.query.now)) in
    let one : IsUnused c.args.limits.now (shape_of (query_tree c.args.query.now)) c.in_ok-unused_worker.field-0 = search rules in
    let items : c.push.new.self.items ≡ c.loop-worker.workers.items ++ c.in_ok-unused_worker.field-0 ∷ [] = search rules in
    let len : vec_len c.push.new.self ≡ vec_len c.loop-worker.workers + 1 = search rules in (
      omega (arith, len, c.loop-worker.invariant.0),
      subst (All is) (sym items) (All-push is c.loop-worker.workers.items c.in_ok-unused_worker.field-0 c.loop-worker.invariant.1 one),
    )
