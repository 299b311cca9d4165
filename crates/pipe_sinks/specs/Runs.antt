-- Sinks: what one is made for, the chunks that it took, and what it gives of them.
use Rattle.std.specs.Prelude.{◌≡◌, ◌≢◌, ◌+◌, ◌<◌, ◌^◌, ◌∷◌, [], ℕ, All, List, map}
use Rattle.std.specs.List.{flat_map}
use Rattle.pipe_columns.specs.declared.data_chunk.DataChunk.{DataChunk}
use Rattle.pipe_columns.specs.Frame.{ColumnData, FitsSchema, FrameData}
use Rattle.pipe_columns.specs.Row.{Row}
use Rattle.pipe_aggs.specs.declared.query.Query.{Query}
use Rattle.pipe_aggs.specs.QueryTrees.{query_tree}
use Rattle.pipe_model.specs.Answer.{answer_of}
use Rattle.pipe_model.specs.Query.{QueryTree}
use Rattle.pipe_model.specs.Rows.{chunk_rows, total_height}

-- a query, and out of how many partitions its groups come
pub record Purpose : Type 0 where
  pub query : Query
  pub partitions : ℕ

-- a sink: what it is made for, and the chunks taken, in order
pub record Run : Type 0 where
  pub query : Query
  pub partitions : ℕ
  pub taken : List DataChunk

-- what it is made for
abbrev pub purpose_of : Run → Purpose
purpose_of r = record { query = r.query; partitions = r.partitions }

-- a sink that took other chunks
abbrev pub with_taken : List DataChunk → Run → Run
with_taken chunks r = record { query = r.query; partitions = r.partitions; taken = chunks }

-- the rows of chunks, each at the places that the index of its chunk gives
abbrev pub placed_rows : QueryTree → List DataChunk → List Row
placed_rows q chunks = flat_map (λ c. chunk_rows q c.chunk_index c.frame) chunks

-- a frame is the answer of the query over the rows of chunks, by partition
abbrev pub IsAnswer : Purpose → List DataChunk → FrameData → Type 0
IsAnswer p chunks f =
    f ≡ answer_of (placed_rows (query_tree p.query) chunks) (query_tree p.query) p.partitions

-- a chunk comes behind another, where both have rows
abbrev pub ComesBehind : DataChunk → DataChunk → Type 0
ComesBehind c d = 0 < c.frame.height → 0 < d.frame.height → d.chunk_index < c.chunk_index

-- two chunks have indexes of their own, where both have rows
abbrev pub HaveOwnIndexes : DataChunk → DataChunk → Type 0
HaveOwnIndexes c d = 0 < c.frame.height → 0 < d.frame.height → c.chunk_index ≢ d.chunk_index

-- a sink takes a chunk: it has the query's columns, comes behind all that were taken, and there are
-- fewer than 2^32 rows with its own
pub record Takes (r : Run) (c : DataChunk) : Type 0 where
  pub fits : FitsSchema r.query.schema c.frame
  pub later : All (λ d. ComesBehind c d) r.taken
  pub few : total_height r.taken + c.frame.height < 2 ^ 32

-- two sinks may be combined: they are made for the same, no chunk of one has the index of one of the
-- other, and they took fewer than 2^32 rows together
pub record MayCombine (r other : Run) : Type 0 where
  pub same : purpose_of other ≡ purpose_of r
  pub apart : All (λ c. All (λ d. HaveOwnIndexes c d) other.taken) r.taken
  pub few : total_height r.taken + total_height other.taken < 2 ^ 32

-- a column holds the keys of a chunk's rows, in their order, one value each
abbrev pub IsKeyColumn : QueryTree → DataChunk → ColumnData → Type 0
IsKeyColumn q c column =
    map (λ v. v ∷ []) column.values ≡ map (λ r. r.key) (chunk_rows q c.chunk_index c.frame)
