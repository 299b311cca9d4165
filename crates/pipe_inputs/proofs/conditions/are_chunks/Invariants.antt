use Rattle.std.proofs.Common.{◌≡◌, ◌<◌, ◌^◌, take}
use Rattle.std.specs.Prelude.{All}
use Rattle.pipe_columns.specs.Frame.{FitsSchema, HoldsTypes}
use Rattle.pipe_model.specs.Rows.{total_height}
use Rattle.pipe_inputs.proofs.conditions.are_chunks.Given as goal

-- the chunks so far fit, and their rows have places
abbrev pub invariant-loop-chunk : goal.invariant-loop-chunk
invariant-loop-chunk l = record {
  fit : All (λ c. FitsSchema l.query.schema c.frame) (take l.chunk-index l.chunks);
  typed : All (λ c. HoldsTypes c.frame) (take l.chunk-index l.chunks);
  rows : l.rows ≡ total_height (take l.chunk-index l.chunks);
  few : l.rows < 2 ^ 32;
}
