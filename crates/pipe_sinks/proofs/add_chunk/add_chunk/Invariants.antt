use Rattle.pipe_aggs.specs.QueryTrees.{query_tree}
use Rattle.pipe_keyed.specs.TakenRows.{TookFirstRows}
use Rattle.pipe_sinks.proofs.add_chunk.add_chunk.Given as goal

-- the table took the rows so far
abbrev pub invariant-loop-row : goal.invariant-loop-row
invariant-loop-row l = TookFirstRows (query_tree l.query) l.chunk.chunk_index l.chunk.frame l.row l.fn.table l.table
