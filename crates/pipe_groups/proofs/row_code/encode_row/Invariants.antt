-- What is written, and the code of the values that are left, make the code of the key.
use Rattle.std.proofs.Common.{◌≡◌, ◌++◌, drop}
use Rattle.pipe_columns.specs.Key.{code}
use Rattle.pipe_inputs.specs.ChunkRows.{row_at}
use Rattle.pipe_groups.proofs.row_code.encode_row.Given as goal

abbrev pub invariant-loop-i : goal.invariant-loop-i
invariant-loop-i l =
    l.buffer.items ++ code (drop l.i l.types) (drop l.i (row_at l.rows l.row).key) ≡ code l.types (row_at l.rows l.row).key
