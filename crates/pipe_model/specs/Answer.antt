-- The groups of rows, and the answer of a query.
use Rattle.std.specs.Prelude.{ℕ, ◌+◌, Bool, ◌||◌, List, [], ◌∷◌, ◌++◌, map, Option, Some, None, if◌then◌else◌}
use Rattle.std.specs.List.{list_any}
use Rattle.std.specs.declared.cmp.Ordering.{Ordering}
use Rattle.std.specs.declared.cmp.Ordering.TheVariants.{Less, Equal, Greater}
use Rattle.std.specs.Ordering.{nat_cmp, ordering_then}
use Rattle.std.specs.Cmp.Lexicographic.{slice_cmp}
use Rattle.pipe_columns.specs.declared.data_type.DataType.{DataType}
use Rattle.pipe_columns.specs.declared.any_value.AnyValue.{AnyValue}
use Rattle.pipe_columns.specs.declared.schema.Field.{Field}
use Rattle.pipe_columns.specs.declared.place.Place.{Place}
use Rattle.pipe_columns.specs.declared.data_chunk.DataChunk.{DataChunk}
use Rattle.pipe_columns.specs.AnyValue.{value_cmp}
use Rattle.pipe_columns.specs.Place.{place_cmp, first_entry}
use Rattle.pipe_columns.specs.Frame.{FrameData, frame_of, value_at}
use Rattle.pipe_columns.specs.Row.{Row}
use Rattle.pipe_columns.specs.Key.{partition}
use Rattle.pipe_columns.specs.Groups.{sorted_keys, values_of}
use Rattle.pipe_columns.specs.Slice.{sliced}
use Rattle.pipe_model.specs.Aggregate.{agg, reads_places}
use Rattle.pipe_model.specs.Query.{AggTree, QueryTree}
use Rattle.pipe_model.specs.Output.{input_type, key_types, output_schema}
use Rattle.pipe_model.specs.Rows.{keys_of, rows}

-- the order of tuples
abbrev pub tuple_cmp : List AnyValue → List AnyValue → Ordering
tuple_cmp a b = slice_cmp value_cmp a b

-- a key with what stands at it: a place and the inputs of the aggregates
abbrev pub Entry : Type 0
Entry = List AnyValue × (Place × List AnyValue)

-- a row as an entry
abbrev pub entry_of : Row → Entry
entry_of r = (r.key, (r.place, r.inputs))

-- the rows of a key: their places and inputs, in order
abbrev pub rows_at : List Row → List AnyValue → List (Place × List AnyValue)
rows_at rs key = values_of tuple_cmp key (map entry_of rs)

-- by the least place where rows have the key; a key without rows comes first
abbrev pub first_place_cmp :
    Option (Place × List AnyValue) → Option (Place × List AnyValue) → Ordering
first_place_cmp None None = Equal
first_place_cmp None (Some f) = Less
first_place_cmp (Some e) None = Greater
first_place_cmp (Some e) (Some f) = place_cmp e.0 f.0

-- by partition, then by tuple
abbrev pub partition_cmp : ℕ → List DataType → List AnyValue → List AnyValue → Ordering
partition_cmp partitions types a b =
    ordering_then (nat_cmp (partition partitions types a) (partition partitions types b))
    (tuple_cmp a b)

-- the order of the groups of rows: where the query keeps order, that of their least places
abbrev pub group_cmp : QueryTree → ℕ → List Row → List AnyValue → List AnyValue → Ordering
group_cmp q partitions rs a b =
    if q.keeps_order then first_place_cmp (first_entry (rows_at rs a)) (first_entry (rows_at rs b))
    else partition_cmp partitions (key_types q) a b

-- the distinct keys of rows, in the order of groups
abbrev pub groups : List Row → QueryTree → ℕ → List (List AnyValue)
groups rs q partitions = sorted_keys (group_cmp q partitions rs) (keys_of rs)

-- what the aggregate at position j is fed by some rows
abbrev pub inputs_at : ℕ → List (Place × List AnyValue) → List (Place × AnyValue)
inputs_at j entries = map (λ e. (e.0, value_at e.1 j)) entries

-- the aggregates of some rows, whose inputs begin at position j
abbrev pub aggs_from : ℕ → List Field → List AggTree → List (Place × List AnyValue) → List AnyValue
aggs_from j schema [] entries = []
aggs_from j schema (a ∷ others) entries =
    agg a.kind (input_type schema a.input) (inputs_at j entries)
    ++ aggs_from (j + 1) schema others entries

-- the row of a group: its key, then the aggregates of its rows
abbrev pub answer_row : QueryTree → List Row → List AnyValue → List AnyValue
answer_row q rs key = key ++ aggs_from 0 q.schema q.aggs (rows_at rs key)

-- the answer of a query over rows, with so many partitions
abbrev pub answer_of : List Row → QueryTree → ℕ → FrameData
answer_of rs q partitions =
    frame_of (output_schema q) (map (answer_row q rs) (sliced q.slice (groups rs q partitions)))

-- the answer over chunks is that over their rows
abbrev pub answer : List DataChunk → QueryTree → ℕ → FrameData
answer chunks q partitions = answer_of (rows chunks q) q partitions

-- whether an answer looks at places: groups come in order, or an aggregate looks at them
abbrev pub answer_reads_places : QueryTree → Bool
answer_reads_places q = q.keeps_order || list_any (λ a. reads_places a.kind) q.aggs
