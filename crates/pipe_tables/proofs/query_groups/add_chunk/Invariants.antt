use Rattle.std.proofs.Common.{◌≡◌}
use Rattle.pipe_aggs.specs.QueryTrees.{query_tree}
use Rattle.pipe_keyed.specs.TakenRows.{TookFirstRows}
use Rattle.pipe_tables.proofs.query_groups.add_chunk.Given as goal

-- the table took the rows so far, and has its limit
abbrev pub invariant-loop-row : goal.invariant-loop-row
invariant-loop-row l =
    TookFirstRows (query_tree l.query) l.index l.chunk.frame l.row l.fn.table l.table × (l.table.limit ≡ l.fn.table.limit)
