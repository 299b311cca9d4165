use Rattle.std.proofs.Common.{◌≡◌, vec_len}
use Rattle.std.specs.List.{All}
use Rattle.pipe_aggs.specs.QueryTrees.{query_tree}
use Rattle.pipe_groups.specs.Shape.{shape_of}
use Rattle.pipe_run.specs.Fed.{IsUnused}
use Rattle.pipe_run.proofs.opening.unused_workers.Given as goal

-- the workers before took no chunk
abbrev pub invariant-loop-worker : goal.invariant-loop-worker
invariant-loop-worker l = (vec_len l.workers ≡ l._worker) × All (IsUnused l.limits (shape_of (query_tree l.query))) l.workers.items
