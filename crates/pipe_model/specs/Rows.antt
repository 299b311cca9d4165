-- The rows of chunks, as a query sees them.
use Rattle.std.specs.Prelude.{ℕ, ◌+◌, ◌<◌, ◌^◌, List, [], ◌∷◌, ◌++◌, length, map, sum_by, All}
use Rattle.std.specs.List.{IsDistinct, range_with_len}
use Rattle.std.specs.Ordering.{eq_by_cmp}
use Rattle.pipe_columns.specs.declared.any_value.AnyValue.{AnyValue}
use Rattle.pipe_columns.specs.declared.any_value.AnyValue.TheVariants as av
use Rattle.pipe_columns.specs.declared.data_chunk.DataChunk.{DataChunk}
use Rattle.pipe_columns.specs.Frame.{FitsSchema, FrameData, HoldsTypes}
use Rattle.pipe_columns.specs.Place.{place_cmp}
use Rattle.pipe_columns.specs.Row.{Row}
use Rattle.pipe_model.specs.Value.{value}
use Rattle.pipe_model.specs.Query.{Input, each, rows_alone, QueryTree}

-- what an aggregate is fed in a row
abbrev pub input_value : Input → FrameData → ℕ → AnyValue
input_value (each e) frame n = value e frame n
input_value rows_alone frame n = av.Null

-- row n of the chunk at position i
abbrev pub row_of : QueryTree → ℕ → FrameData → ℕ → Row
row_of q i frame n = record {
  place = record { chunk = i; row = n };
  key = map (λ e. value e frame n) q.keys;
  inputs = map (λ a. input_value a.input frame n) q.aggs;
}

-- the rows of the chunk at position i
abbrev pub chunk_rows : QueryTree → ℕ → FrameData → List Row
chunk_rows q i frame = map (λ n. row_of q i frame n) (range_with_len 0 frame.height)

-- the rows of chunks from position i on
abbrev pub rows_from : QueryTree → ℕ → List DataChunk → List Row
rows_from q i [] = []
rows_from q i (c ∷ cs) = chunk_rows q i c.frame ++ rows_from q (i + 1) cs

-- the rows of chunks, in order
abbrev pub rows : List DataChunk → QueryTree → List Row
rows chunks q = rows_from q 0 chunks

-- the keys of rows, in order
abbrev pub keys_of : List Row → List (List AnyValue)
keys_of rs = map (λ r. r.key) rs

-- no place stands twice among rows
abbrev pub HaveDistinctPlaces : List Row → Type 0
HaveDistinctPlaces rs = IsDistinct (eq_by_cmp place_cmp) (map (λ r. r.place) rs)

-- how many rows chunks have
abbrev pub total_height : List DataChunk → ℕ
total_height chunks = sum_by (λ c. c.frame.height) chunks

-- chunks that a query may be asked of: each has the columns of its schema, its values fit their types
-- and are in UTF-8, and rows have places
pub record AreChunksOf (q : QueryTree) (chunks : List DataChunk) : Type 0 where
  pub columns : All (λ c. FitsSchema q.schema c.frame) chunks
  pub typed : All (λ c. HoldsTypes c.frame) chunks
  pub rows : total_height chunks < 2 ^ 32
  pub number : length chunks < 2 ^ 32
