use Rattle.std.proofs.Common.{◌≡◌, ◌+◌, ◌<◌, ◌^◌, drop}
use Rattle.pipe_model.specs.Rows.{total_height}
use Rattle.pipe_saving.proofs.chunk_check.total_rows.Given as goal

-- the rows so far and those that are left are all
abbrev pub invariant-loop-chunk : goal.invariant-loop-chunk
invariant-loop-chunk l = (l.rows + total_height (drop l.chunk-index l.chunks) ≡ total_height l.chunks) × (l.rows < 2 ^ 32)
