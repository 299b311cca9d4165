use Rattle.std.proofs.Common.{◌≡◌, ◌+◌, ◌<◌, ◌^◌, drop}
use Rattle.pipe_model.specs.Rows.{total_height}
use Rattle.pipe_run.proofs.chunk_check.rows_with.Given as goal

-- the rows so far and those that are left are all
abbrev pub invariant-loop-chunk : goal.invariant-loop-chunk
invariant-loop-chunk l = (l.all + total_height (drop l.chunk-index l.chunks) ≡ l.rows + total_height l.chunks) × (l.all < 2 ^ 32)
