use Rattle.std.proofs.Common.{◌≡◌, ◌+◌, ◌-◌, ◌^◌, map}
use Rattle.std.specs.List.{range_with_len}
use Rattle.pipe_aggs.specs.HashAggs.{prototypes}
use Rattle.pipe_aggs.specs.QueryTrees.{query_tree}
use Rattle.pipe_model.specs.Rows.{row_of}
use Rattle.test_plain.specs.Running.{group_seen, KeysAscend, starts, TableHolds, with_rows}
use Rattle.test_plain.proofs.table.add_chunk.Given as goal

-- the table has the rows so far
abbrev pub invariant-loop-row : goal.invariant-loop-row
invariant-loop-row l = let q = query_tree l.query in record {
  table : map group_seen l.table.items ≡ with_rows (starts (prototypes q)) (map group_seen l.fn.table.items) (map (λ n. row_of q l.index l.chunk.frame n) (range_with_len 0 l.row));
  ascending : KeysAscend (map group_seen l.table.items);
  held : TableHolds (2 ^ 32 - 1 - l.chunk.frame.height + l.row) (prototypes q) (map group_seen l.table.items);
}
