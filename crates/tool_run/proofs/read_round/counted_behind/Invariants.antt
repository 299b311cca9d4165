use Rattle.std.proofs.Common.{◌≡◌, ◌+◌, ◌<◌, ◌^◌, drop}
use Rattle.pipe_model.specs.Rows.{total_height}
use Rattle.tool_run.proofs.read_round.counted_behind.Given as goal

-- the chunks so far are counted, and the rest are not
abbrev pub invariant-loop-chunk : goal.invariant-loop-chunk
invariant-loop-chunk l = record {
  chunks : l.counted.chunks ≡ l.fn.before.chunks + l.chunk-index;
  rows : l.fn.before.rows + total_height l.chunks ≡ l.counted.rows + total_height (drop l.chunk-index l.chunks);
  few_chunks : l.counted.chunks < 2 ^ 32;
  few_rows : l.counted.rows < 2 ^ 32;
}
