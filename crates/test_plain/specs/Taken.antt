-- The groups of chunks that come one by one.
use Rattle.std.specs.Prelude.{◌≡◌, List, []}
use Rattle.pipe_columns.specs.declared.data_chunk.DataChunk.{DataChunk}
use Rattle.pipe_aggs.specs.declared.query.Query.{Query}
use Rattle.pipe_aggs.specs.HashAggs.{prototypes}
use Rattle.pipe_model.specs.Query.{QueryTree}
use Rattle.pipe_model.specs.Rows.{AreChunksOf, rows}
use Rattle.test_plain.specs.Running.{starts, Table, with_rows}

-- a query, and the chunks that were taken for it, in order
pub record PlainRun : Type 0 where
  pub query : Query
  pub taken : List DataChunk

-- a table has the rows of the chunks taken, which the query may be asked of
pub record HasTaken (q : QueryTree) (taken : List DataChunk) (table : Table) : Type 0 where
  pub chunks : AreChunksOf q taken
  pub rows : table ≡ with_rows (starts (prototypes q)) [] (rows taken q)
