use Rattle.pipe_aggs.specs.QueryTrees.{query_tree}
use Rattle.pipe_states.proofs.ReadRows.{AreRowsTo}
use Rattle.pipe_states.proofs.row_read.read_rows.Given as goal

-- so many rows were read
abbrev pub invariant-loop-row : goal.invariant-loop-row
invariant-loop-row l = AreRowsTo (query_tree l.query) l.rows.items l.rest l.initial.rest l._row
