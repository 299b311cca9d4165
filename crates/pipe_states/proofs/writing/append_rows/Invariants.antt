use Rattle.std.proofs.Common.{◌≡◌, ◌++◌, drop, map}
use Rattle.pipe_aggs.specs.QueryTrees.{query_tree}
use Rattle.pipe_spill.specs.FrameBytes.{rows_bytes}
use Rattle.pipe_states.specs.StateText.{saved_row, state_types}
use Rattle.pipe_states.proofs.writing.append_rows.Given as goal

-- the rows so far are written, and the others are left
abbrev pub invariant-loop-row : goal.invariant-loop-row
invariant-loop-row l =
    l.text.items ++ rows_bytes (state_types (query_tree l.query)) (map (saved_row (query_tree l.query)) (drop l.row-index l.rows))
    ≡ l.fn.text.items ++ rows_bytes (state_types (query_tree l.query)) (map (saved_row (query_tree l.query)) l.rows)
