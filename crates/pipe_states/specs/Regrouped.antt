-- What saved states come to, regrouped by a part of the key columns.
use Rattle.std.specs.Prelude.{ℕ, ◌+◌, List, [], ◌∷◌, ◌++◌, length, map, filter, sum_by, None, false}
use Rattle.std.specs.List.{flat_map, slice_get}
use Rattle.std.specs.Option.{option_to_list}
use Rattle.std.specs.Ordering.{is_eq}
use Rattle.pipe_columns.specs.declared.any_value.AnyValue.{AnyValue}
use Rattle.pipe_columns.specs.declared.any_value.AnyValue.TheVariants as av
use Rattle.pipe_columns.specs.declared.data_type.DataType.{DataType}
use Rattle.pipe_columns.specs.declared.data_type.DataType.TheVariants as dt
use Rattle.pipe_columns.specs.declared.place.Place.{Place}
use Rattle.pipe_columns.specs.declared.schema.Field.{Field}
use Rattle.pipe_columns.specs.DataType.{sum_type}
use Rattle.pipe_columns.specs.Frame.{FrameData, frame_of, value_at}
use Rattle.pipe_columns.specs.Groups.{sorted_keys}
use Rattle.pipe_columns.specs.Place.{first_entry, last_entry}
use Rattle.pipe_model.specs.Aggregate.{entry_value, exact_sum, extreme, greater, lesser, present, sum_if_any, total}
use Rattle.pipe_model.specs.Answer.{tuple_cmp}
use Rattle.pipe_model.specs.Kind.{Kind}
use Rattle.pipe_model.specs.Kind as kind
use Rattle.pipe_model.specs.Output.{agg_fields, input_type, output_schema}
use Rattle.pipe_model.specs.Query.{AggTree, QueryTree}
use Rattle.pipe_states.specs.States.{place_of, StateSeen}
use Rattle.pipe_states.specs.declared.state_row.StateRow.{StateRow}

-- ---- aggregates of state rows

-- the results of state rows in the output column at position j behind the keys
abbrev pub results_at : ℕ → List StateRow → List AnyValue
results_at j rows = map (λ r. value_at r.results j) rows

-- these results, each at the least place of its rows
abbrev pub first_results : ℕ → List StateRow → List (Place × AnyValue)
first_results j rows = map (λ r. (r.first, value_at r.results j)) rows

-- and each at the greatest
abbrev pub last_results : ℕ → List StateRow → List (Place × AnyValue)
last_results j rows = map (λ r. (r.last, value_at r.results j)) rows

-- the halves of means: the sums that are no null add up, and so do the counts
abbrev pub regrouped_halves : DataType → ℕ → List StateRow → List AnyValue
regrouped_halves dt.String j rows = av.Null ∷ []
regrouped_halves t j rows =
    sum_if_any (present (results_at j rows)) ∷ av.Int (exact_sum (results_at (j + 1) rows)) ∷ []

-- what an aggregate over values of a type, with its first output column at position j, gives of
-- state rows
abbrev pub regrouped_agg : Kind → DataType → ℕ → List StateRow → List AnyValue
regrouped_agg kind.sum t j rows = total (sum_type t) (results_at j rows) ∷ []
regrouped_agg kind.mean t j rows = regrouped_halves t j rows
regrouped_agg kind.min t j rows = extreme lesser (present (results_at j rows)) ∷ []
regrouped_agg kind.max t j rows = extreme greater (present (results_at j rows)) ∷ []
regrouped_agg kind.first t j rows = entry_value (first_entry (first_results j rows)) ∷ []
regrouped_agg kind.last t j rows = entry_value (last_entry (last_results j rows)) ∷ []
regrouped_agg kind.count t j rows = av.Int (exact_sum (results_at j rows)) ∷ []
regrouped_agg kind.len t j rows = av.Int (exact_sum (results_at j rows)) ∷ []

-- how many output columns an aggregate over values of a type has
abbrev pub column_count : Kind → DataType → ℕ
column_count k t = length (agg_fields [] k t)

-- what aggregates, with their output columns from position j on, give of state rows
abbrev pub regrouped_aggs : ℕ → List Field → List AggTree → List StateRow → List AnyValue
regrouped_aggs j schema [] rows = []
regrouped_aggs j schema (a ∷ others) rows =
    regrouped_agg a.kind (input_type schema a.input) j rows
    ++ regrouped_aggs (j + column_count a.kind (input_type schema a.input)) schema others rows

-- ---- state rows by a part of their keys

-- the values of a tuple at some positions
abbrev pub kept : List ℕ → List AnyValue → List AnyValue
kept keep key = map (value_at key) keep

-- the state rows of which a part of the key is a tuple
abbrev pub rows_with :
    (List AnyValue → List AnyValue) → List AnyValue → List StateRow → List StateRow
rows_with part tuple rows = filter (λ r. is_eq (tuple_cmp (part r.key) tuple)) rows

-- the least of some places
abbrev pub least_place : List Place → Place
least_place places = place_of (first_entry (map (λ p. (p, p)) places))

-- the greatest of some places
abbrev pub greatest_place : List Place → Place
greatest_place places = place_of (last_entry (map (λ p. (p, p)) places))

-- what state rows of a tuple come to
abbrev pub regrouped_row : QueryTree → List AnyValue → List StateRow → StateRow
regrouped_row q tuple rows = record {
  key = tuple;
  first = least_place (map (λ r. r.first) rows);
  last = greatest_place (map (λ r. r.last) rows);
  rows = sum_by (λ r. r.rows) rows;
  results = regrouped_aggs 0 q.schema q.aggs rows;
}

-- state rows by a part of their keys: one for each distinct tuple, in order of tuple
abbrev pub regrouped_rows :
    QueryTree → (List AnyValue → List AnyValue) → List StateRow → List StateRow
regrouped_rows q part rows =
    map (λ tuple. regrouped_row q tuple (rows_with part tuple rows))
    (sorted_keys tuple_cmp (map (λ r. part r.key) rows))

-- ---- states

-- the rows of states, in order
abbrev pub rows_of_states : List StateSeen → List StateRow
rows_of_states states = flat_map (λ s. s.rows) states

-- a query with the keys at some positions alone, without a slice and without kept order
abbrev pub with_keys : QueryTree → List ℕ → QueryTree
with_keys q keep = record q {
  keys = flat_map (λ i. option_to_list (slice_get q.keys i)) keep;
  slice = None;
  keeps_order = false;
}

-- states regrouped by the key columns at some positions: for each distinct kept tuple, in order of
-- tuple, that tuple, and what the state rows with it come to
abbrev pub regrouped : QueryTree → List StateSeen → List ℕ → FrameData
regrouped q states keep =
    frame_of (output_schema (with_keys q keep))
    (map (λ r. r.key ++ r.results) (regrouped_rows q (kept keep) (rows_of_states states)))

-- where states begin
abbrev pub first_of : List StateSeen → ℕ
first_of [] = 0
first_of (s ∷ others) = s.first

-- where states end
abbrev pub end_of : List StateSeen → ℕ
end_of [] = 0
end_of (s ∷ []) = s.end
end_of (s ∷ t ∷ others) = end_of (t ∷ others)

-- states of which each begins where the one before ends, as one
abbrev pub merged_states : QueryTree → List StateSeen → StateSeen
merged_states q states = record {
  first = first_of states;
  end = end_of states;
  rows = regrouped_rows q (λ key. key) (rows_of_states states);
}
