use Rattle.std.proofs.Common.{take}
use Rattle.pipe_aggs.specs.QueryTrees.{query_tree}
use Rattle.pipe_groups.specs.Shape.{shape_of}
use Rattle.pipe_tables.specs.After.{IsAfter}
use Rattle.test_tables.proofs.tables.local.fed_rows.Given as goal

-- the local table took the rows so far
abbrev pub invariant-loop-row : goal.invariant-loop-row
invariant-loop-row l = IsAfter l.limits (shape_of (query_tree l.query)) (take l.row l.rows) l.table
