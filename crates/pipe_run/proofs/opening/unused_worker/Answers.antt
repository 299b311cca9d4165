use Rattle.pipe_tables.proofs.AfterFacts.{after-none}
use Rattle.pipe_aggs.specs.QueryTrees.{query_tree}
use Rattle.pipe_groups.specs.Shape.{shape_of}
use Rattle.pipe_run.proofs.opening.unused_worker.Goals as goal
use Rattle.std.proofs.Common.{refl}

pub returns : goal.returns
returns c = record {
  table = after-none c.args.limits.now (shape_of (query_tree c.args.query.now)) c.in-Ok.table c.requires.generic c.requires.limits.buffer c.in-Ok.ensures.shape c.in-Ok.ensures.limit c.in-Ok.ensures.groups c.in-Ok.ensures.size c.in-Ok.ensures.rows c.in-Ok.ensures.overflowed;
  turns = refl;
  picks = refl;
}
