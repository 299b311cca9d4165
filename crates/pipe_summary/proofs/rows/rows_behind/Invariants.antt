use Rattle.std.proofs.Common.{◌≡◌, ◌+◌, ◌<◌, ◌^◌, take}
use Rattle.pipe_model.specs.Rows.{total_height}
use Rattle.pipe_summary.proofs.rows.rows_behind.Given as goal

-- the rows so far
abbrev pub invariant-loop-chunk : goal.invariant-loop-chunk
invariant-loop-chunk l = record {
  rows : l.rows ≡ l.before + total_height (take l.chunk-index l.chunks);
  few : l.rows < 2 ^ 32;
}
