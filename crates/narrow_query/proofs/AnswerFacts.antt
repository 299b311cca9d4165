-- Rows and answers over wanted columns.
use Rattle.std.proofs.Common.{◌≡◌, ◌∙◌, ◌+◌, ◌++◌, ℕ, Bool, true, List, [], ◌∷◌, map, refl, ap, if◌then◌else◌}
use Rattle.std.specs.List.{All, flat_map, list_all, range_with_len}
use Rattle.std.proofs.lemmas.Bool.{and_parts}
use Rattle.std.proofs.lemmas.List.Elements.{All-head, All-tail}
use Rattle.pipe_columns.specs.declared.any_value.AnyValue.{AnyValue}
use Rattle.pipe_columns.specs.declared.data_chunk.DataChunk.{DataChunk}
use Rattle.pipe_columns.specs.declared.place.Place.{Place}
use Rattle.pipe_columns.specs.declared.schema.Field.{Field}
use Rattle.pipe_columns.specs.Frame.{FitsSchema, FrameData, fields_of, frame_of}
use Rattle.pipe_columns.specs.Row.{Row}
use Rattle.pipe_columns.specs.Slice.{sliced}
use Rattle.pipe_model.specs.Aggregate.{agg}
use Rattle.pipe_model.specs.Answer.{aggs_from, answer, answer_of, groups, inputs_at, partition_cmp, rows_at, first_place_cmp}
use Rattle.pipe_columns.specs.Place.{first_entry}
use Rattle.pipe_columns.specs.Groups.{sorted_keys}
use Rattle.pipe_model.specs.Expr.{name_of}
use Rattle.pipe_model.specs.Output.{agg_fields, input_type, key_types, output_schema}
use Rattle.pipe_model.specs.Query.{AggTree, each, Input, QueryTree, rows_alone}
use Rattle.pipe_model.specs.Rows.{chunk_rows, input_value, keys_of, row_of, rows, rows_from}
use Rattle.pipe_model.specs.Typing.{known_type}
use Rattle.pipe_model.specs.Value.{value}
use Rattle.narrow_columns.specs.Wanted.{chosen, narrowed_chunks, narrowed_frame}
use Rattle.narrow_query.specs.Names.{covers, has_fed, has_named}
use Rattle.narrow_query.specs.Narrowed.{narrowed_tree}
use Rattle.narrow_query.proofs.ExprFacts.{known-same, value-same}

-- functions that agree where a test holds
pub map-where : {X Y : Type 0} (test : X → Bool) (f g : X → Y) → ((x : X) → test x ≡ true → f x ≡ g x) → (xs : List X) → list_all test xs ≡ true → map f xs ≡ map g xs
map-where test f g same [] h = refl
map-where test f g same (x ∷ xs) h =
    let both = and_parts (test x) (list_all test xs) h in
    let one = same x both.0 in
    let rest = map-where test f g same xs both.1 in
    λ i. one i ∷ rest i

-- what an aggregate is fed in a row
input-same : (ws : List Bool) (frame : FrameData) (row : ℕ) (input : Input) → has_fed ws (fields_of frame.columns) input ≡ true → input_value input (narrowed_frame ws frame) row ≡ input_value input frame row
input-same ws frame row (each e) h = value-same ws frame row e h
input-same ws frame row rows_alone h = refl

-- a row
row-same : (ws : List Bool) (q : QueryTree) (i : ℕ) (frame : FrameData) (n : ℕ) → FitsSchema q.schema frame → covers ws q ≡ true → row_of (narrowed_tree ws q) i (narrowed_frame ws frame) n ≡ row_of q i frame n
row-same ws q i frame n fits h =
    let fs : List Field = fields_of frame.columns in
    let all = and_parts (list_all (has_named ws q.schema) q.keys) (list_all (λ a. has_fed ws q.schema a.input) q.aggs) h in
    let keys : list_all (has_named ws fs) q.keys ≡ true = rw fits all.0 in
    let inputs : list_all (λ a. has_fed ws fs a.input) q.aggs ≡ true = rw fits all.1 in
    let a = map-where (has_named ws fs) (λ e. value e (narrowed_frame ws frame) n) (λ e. value e frame n) (λ e k. value-same ws frame n e k) q.keys keys in
    let b = map-where (λ (a : AggTree). has_fed ws fs a.input) (λ a. input_value a.input (narrowed_frame ws frame) n) (λ a. input_value a.input frame n) (λ a k. input-same ws frame n a.input k) q.aggs inputs in
    λ j. record { place = record { chunk = i; row = n }; key = a j; inputs = b j }

-- the rows of a chunk
chunk-same : (ws : List Bool) (q : QueryTree) (i : ℕ) (frame : FrameData) → FitsSchema q.schema frame → covers ws q ≡ true → chunk_rows (narrowed_tree ws q) i (narrowed_frame ws frame) ≡ chunk_rows q i frame
chunk-same ws q i frame fits h = λ j. map (λ n. row-same ws q i frame n fits h j) (range_with_len 0 frame.height)

-- the rows of chunks from a position on
rows_from-same : (ws : List Bool) (q : QueryTree) (i : ℕ) (chunks : List DataChunk) → All (λ c. FitsSchema q.schema c.frame) chunks → covers ws q ≡ true → rows_from (narrowed_tree ws q) i (narrowed_chunks ws chunks) ≡ rows_from q i chunks
rows_from-same ws q i [] fits h = refl
rows_from-same ws q i (c ∷ cs) fits h =
    let one = chunk-same ws q i c.frame (All-head (λ c. FitsSchema q.schema c.frame) c cs fits) h in
    let rest = rows_from-same ws q (i + 1) cs (All-tail (λ c. FitsSchema q.schema c.frame) c cs fits) h in
    λ j. one j ++ rest j

-- a query's rows are those of the narrowed query over the narrowed chunks
pub rows-same : (ws : List Bool) (q : QueryTree) (chunks : List DataChunk) → All (λ c. FitsSchema q.schema c.frame) chunks → covers ws q ≡ true → rows (narrowed_chunks ws chunks) (narrowed_tree ws q) ≡ rows chunks q
rows-same ws q chunks fits h = rows_from-same ws q 0 chunks fits h

-- the type of what an aggregate is fed
pub fed-type : (ws : List Bool) (schema : List Field) (input : Input) → has_fed ws schema input ≡ true → input_type (chosen ws schema) input ≡ input_type schema input
fed-type ws schema (each e) h = known-same ws schema e h
fed-type ws schema rows_alone h = refl

-- the types of the keys
pub keys-same : (ws : List Bool) (q : QueryTree) → covers ws q ≡ true → key_types (narrowed_tree ws q) ≡ key_types q
keys-same ws q h =
    let all = and_parts (list_all (has_named ws q.schema) q.keys) (list_all (λ a. has_fed ws q.schema a.input) q.aggs) h in
    map-where (has_named ws q.schema) (λ e. known_type e (chosen ws q.schema)) (λ e. known_type e q.schema) (λ e k. known-same ws q.schema e k) q.keys all.0

-- the columns of aggregates
aggs-fields : (ws : List Bool) (schema : List Field) (aggs : List AggTree) → list_all (λ a. has_fed ws schema a.input) aggs ≡ true
    → flat_map (λ (a : AggTree). agg_fields a.name a.kind (input_type (chosen ws schema) a.input)) aggs ≡ flat_map (λ (a : AggTree). agg_fields a.name a.kind (input_type schema a.input)) aggs
aggs-fields ws schema [] h = refl
aggs-fields ws schema (a ∷ others) h =
    let both = and_parts (has_fed ws schema a.input) (list_all (λ a. has_fed ws schema a.input) others) h in
    let one = fed-type ws schema a.input both.0 in
    let rest = aggs-fields ws schema others both.1 in
    λ j. agg_fields a.name a.kind (one j) ++ rest j

-- the output's columns
pub output-same : (ws : List Bool) (q : QueryTree) → covers ws q ≡ true → output_schema (narrowed_tree ws q) ≡ output_schema q
output-same ws q h =
    let all = and_parts (list_all (has_named ws q.schema) q.keys) (list_all (λ a. has_fed ws q.schema a.input) q.aggs) h in
    let keys = map-where (has_named ws q.schema) (λ e. let f : Field = record { name = name_of e; dtype = known_type e (chosen ws q.schema) } in f) (λ e. record { name = name_of e; dtype = known_type e q.schema })
    (λ e k. ap (λ t. let f : Field = record { name = name_of e; dtype = t } in f) (known-same ws q.schema e k)) q.keys all.0 in
    let aggs = aggs-fields ws q.schema q.aggs all.1 in
    λ j. keys j ++ aggs j

-- the aggregates of some rows
aggs-same : (ws : List Bool) (n : ℕ) (schema : List Field) (aggs : List AggTree) (entries : List (Place × List AnyValue)) → list_all (λ a. has_fed ws schema a.input) aggs ≡ true
    → aggs_from n (chosen ws schema) aggs entries ≡ aggs_from n schema aggs entries
aggs-same ws n schema [] entries h = refl
aggs-same ws n schema (a ∷ others) entries h =
    let both = and_parts (has_fed ws schema a.input) (list_all (λ a. has_fed ws schema a.input) others) h in
    let one = fed-type ws schema a.input both.0 in
    let rest = aggs-same ws (n + 1) schema others entries both.1 in
    λ j. agg a.kind (one j) (inputs_at n entries) ++ rest j

-- the groups of rows, in their order
groups-same : (ws : List Bool) (rs : List Row) (q : QueryTree) (partitions : ℕ) → covers ws q ≡ true → groups rs (narrowed_tree ws q) partitions ≡ groups rs q partitions
groups-same ws rs q partitions h =
    let types = keys-same ws q h in
    λ j. sorted_keys (λ a b. if q.keeps_order then first_place_cmp (first_entry (rows_at rs a)) (first_entry (rows_at rs b)) else partition_cmp partitions (types j) a b) (keys_of rs)

-- the answer over the same rows
answer_of-same : (ws : List Bool) (rs : List Row) (q : QueryTree) (partitions : ℕ) → covers ws q ≡ true → answer_of rs (narrowed_tree ws q) partitions ≡ answer_of rs q partitions
answer_of-same ws rs q partitions h =
    let all = and_parts (list_all (has_named ws q.schema) q.keys) (list_all (λ a. has_fed ws q.schema a.input) q.aggs) h in
    let schema = output-same ws q h in
    let keys = groups-same ws rs q partitions h in
    λ j. frame_of (schema j) (map (λ key. key ++ aggs-same ws 0 q.schema q.aggs (rows_at rs key) all.1 j) (sliced q.slice (keys j)))

-- a query's answer is that of the narrowed query over the narrowed chunks
pub answer-same : (ws : List Bool) (q : QueryTree) (chunks : List DataChunk) (partitions : ℕ) → All (λ c. FitsSchema q.schema c.frame) chunks → covers ws q ≡ true → answer (narrowed_chunks ws chunks) (narrowed_tree ws q) partitions ≡ answer chunks q partitions
answer-same ws q chunks partitions fits h =
    ap (λ rs. answer_of rs (narrowed_tree ws q) partitions) (rows-same ws q chunks fits h) ∙ answer_of-same ws (rows chunks q) q partitions h
