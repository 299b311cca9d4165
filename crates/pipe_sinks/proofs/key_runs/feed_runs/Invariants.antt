use Rattle.std.proofs.Common.{drop}
use Rattle.pipe_aggs.specs.QueryTrees.{query_tree}
use Rattle.pipe_keyed.specs.TakenRows.{TookFirstRows}
use Rattle.pipe_sinks.specs.KeyCuts.{AreCut}
use Rattle.pipe_sinks.proofs.key_runs.feed_runs.Given as goal

-- the table took the rows so far, and the others are cut
abbrev pub invariant-loop-run : goal.invariant-loop-run
invariant-loop-run l = record {
  took : TookFirstRows (query_tree l.query) l.chunk.chunk_index l.chunk.frame l.row l.fn.table l.table;
  cut : AreCut l.table l.rows l.row (drop l.run-index l.runs) l.chunk.frame.height;
}
