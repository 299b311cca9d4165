-- Of the proofs alone: a sink of several, which takes chunks in turn with them.
use Rattle.std.specs.Prelude.{◌≡◌, ◌<◌, ◌≤◌, ◌%◌, ℕ, All, List}
use Rattle.pipe_columns.specs.declared.data_chunk.DataChunk.{DataChunk}
use Rattle.pipe_aggs.specs.declared.query.Query.{Query}
use Rattle.pipe_model.specs.Rows.{total_height}
use Rattle.pipe_sinks.specs.Runs.{Run}

-- a sink for a query took chunks whose indexes leave remainders from one on and below another, and
-- are below a number; they have so many rows, which are few
pub record IsFed (q : Query) (sinks from to next height : ℕ) (r : Run) : Type 0 where
  pub query : r.query ≡ q
  pub later : All (λ d. d.chunk_index < next) r.taken
  pub least : All (λ d. from ≤ d.chunk_index % sinks) r.taken
  pub most : All (λ d. d.chunk_index % sinks < to) r.taken
  pub rows : total_height r.taken ≡ height
  pub few : height ≤ 1000
  pub some : from < to
