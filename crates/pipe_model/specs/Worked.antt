-- Inputs of worked rows.
use Rattle.std.specs.Prelude.{ℕ, pos, true, false, List, [], ◌∷◌, map, codes, Some, None}
use Rattle.pipe_columns.specs.declared.data_type.DataType.{DataType}
use Rattle.pipe_columns.specs.declared.any_value.AnyValue.{AnyValue}
use Rattle.pipe_columns.specs.declared.any_value.AnyValue.TheVariants as av
use Rattle.pipe_columns.specs.declared.schema.Field.{Field}
use Rattle.pipe_columns.specs.declared.data_chunk.DataChunk.{DataChunk}
use Rattle.pipe_columns.specs.Frame.{frame_of, FrameData}
use Rattle.pipe_model.specs.Kind.{Kind}
use Rattle.pipe_model.specs.Kind as kind
use Rattle.pipe_model.specs.Expr.{column}
use Rattle.pipe_model.specs.Query.{AggTree, each, rows_alone, QueryTree}

-- ---- values and chunks

-- a number
abbrev pub int : ℕ → AnyValue
int n = av.Int (pos n)

-- some numbers
abbrev pub numbers : List ℕ → List AnyValue
numbers ns = map int ns

-- a text
abbrev pub text : List ℕ → AnyValue
text s = av.Text s

-- a row of two numbers
abbrev pub row : ℕ → ℕ → List AnyValue
row k v = int k ∷ int v ∷ []

-- a key k and a value v of two types
abbrev pub key_value : DataType → DataType → List Field
key_value k v = record { name = codes "k"; dtype = k } ∷ record { name = codes "v"; dtype = v } ∷ []

-- chunks of rows k, v
abbrev pub chunks_of : DataType → DataType → List (List (List AnyValue)) → List DataChunk
chunks_of k v parts =
    map (λ rows. record { chunk_index = 0; frame = frame_of (key_value k v) rows }) parts

-- one chunk of rows k, v
abbrev pub chunk_of : DataType → DataType → List (List AnyValue) → List DataChunk
chunk_of k v rows = chunks_of k v (rows ∷ [])

-- rows whose key is each of the numbers and whose value is 1
abbrev pub each_with_one : List ℕ → List (List AnyValue)
each_with_one keys = map (λ k. row k 1) keys

-- ---- aggregates of v

-- an aggregate of v under a name
abbrev pub agg_of : List ℕ → Kind → AggTree
agg_of name k = record { name = name; kind = k; input = each (column (codes "v")) }

-- the number of rows under a name
abbrev pub len_of : List ℕ → AggTree
len_of name = record { name = name; kind = kind.len; input = rows_alone }

-- the sum
abbrev pub sum_alone : List AggTree
sum_alone = agg_of (codes "s") kind.sum ∷ []

-- the sum and the number of values
abbrev pub sum_and_count : List AggTree
sum_and_count = agg_of (codes "s") kind.sum ∷ agg_of (codes "c") kind.count ∷ []

-- the sum and the mean
abbrev pub sum_and_mean : List AggTree
sum_and_mean = agg_of (codes "s") kind.sum ∷ agg_of (codes "m") kind.mean ∷ []

-- the sum, the least value and the mean
abbrev pub sum_min_mean : List AggTree
sum_min_mean =
    agg_of (codes "s") kind.sum ∷ agg_of (codes "lo") kind.min ∷ agg_of (codes "m") kind.mean ∷ []

-- the first value and the last
abbrev pub first_and_last : List AggTree
first_and_last = agg_of (codes "a") kind.first ∷ agg_of (codes "b") kind.last ∷ []

-- an aggregate of each kind
abbrev pub all_kinds : List AggTree
all_kinds =
    agg_of (codes "a") kind.first ∷ agg_of (codes "b") kind.last ∷ agg_of (codes "c") kind.count
    ∷ len_of (codes "d") ∷ agg_of (codes "e") kind.sum ∷ agg_of (codes "f") kind.min
    ∷ agg_of (codes "g") kind.max ∷ agg_of (codes "h") kind.mean ∷ []

-- the sums of k and of v
abbrev pub both_sums : List AggTree
both_sums =
    record { name = codes "a"; kind = kind.sum; input = each (column (codes "k")) }
    ∷ agg_of (codes "b") kind.sum ∷ []

-- ---- queries and answers

-- the aggregates of v by k
abbrev pub by_key : DataType → DataType → List AggTree → QueryTree
by_key k v aggs = record {
  schema = key_value k v;
  keys = column (codes "k") ∷ [];
  aggs = aggs;
  slice = None;
  keeps_order = false;
}

-- a query that keeps a slice of its groups
abbrev pub with_slice : ℕ → ℕ → QueryTree → QueryTree
with_slice offset len q = record q { slice = Some (offset, len) }

-- a query whose groups come in the order of their first rows
abbrev pub in_order : QueryTree → QueryTree
in_order q = record q { keeps_order = true }

-- the columns of an answer
abbrev pub shown : FrameData → List (List AnyValue)
shown f = map (λ c. c.values) f.columns
