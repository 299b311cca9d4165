-- The bytes of a saved state.
use Rattle.std.specs.Prelude.{ℕ, ◌+◌, ◌^◌, pos, List, [], ◌∷◌, ◌++◌, map}
use Rattle.std.specs.Int.{bytes_high_first, int_div_euclid, int_rem_euclid}
use Rattle.std.specs.List.{flat_map}
use Rattle.pipe_columns.specs.declared.any_value.AnyValue.{AnyValue}
use Rattle.pipe_columns.specs.declared.any_value.AnyValue.TheVariants as av
use Rattle.pipe_columns.specs.declared.data_type.DataType.{DataType}
use Rattle.pipe_columns.specs.declared.data_type.DataType.TheVariants as dt
use Rattle.pipe_columns.specs.declared.schema.Field.{Field}
use Rattle.pipe_columns.specs.Frame.{value_at}
use Rattle.pipe_columns.specs.Key.{code}
use Rattle.pipe_model.specs.Aggregate.{counted}
use Rattle.pipe_model.specs.Kind.{Kind}
use Rattle.pipe_model.specs.Kind as kind
use Rattle.pipe_model.specs.Output.{agg_fields, input_type, key_types}
use Rattle.pipe_model.specs.Query.{AggTree, QueryTree}
use Rattle.pipe_spill.specs.FrameBytes.{frame_bytes}
use Rattle.pipe_spill.specs.declared.spill_row.SpillRow.{SpillRow}
use Rattle.pipe_states.specs.Regrouped.{column_count}
use Rattle.pipe_states.specs.States.{StateSeen}
use Rattle.pipe_states.specs.declared.state_row.StateRow.{StateRow}

-- the types in which a mean is saved: both halves of its sum, and its count
abbrev pub saved_mean_types : DataType → List DataType
saved_mean_types dt.String = dt.String ∷ []
saved_mean_types t = dt.Int64 ∷ dt.UInt64 ∷ dt.UInt32 ∷ []

-- the types in which an aggregate over values of a type is saved: those of its output columns, and
-- a mean in halves
abbrev pub saved_types : Kind → DataType → List DataType
saved_types kind.mean t = saved_mean_types t
saved_types k t = map (λ f. f.dtype) (agg_fields [] k t)

-- the types of what a state row of a query is saved as, behind its key: the chunk and the row of
-- its greatest place, how many its rows are, and its aggregates
abbrev pub state_types : QueryTree → List DataType
state_types q =
    dt.UInt32 ∷ dt.UInt32 ∷ dt.UInt32
    ∷ flat_map (λ a. saved_types a.kind (input_type q.schema a.input)) q.aggs

-- the high half of a sum, null for none
abbrev pub high_half : AnyValue → AnyValue
high_half (av.Int n) = av.Int (int_div_euclid n (pos (2 ^ 64)))
high_half v = av.Null

-- and the low half, from 0 on: the sum is high * 2^64 + low
abbrev pub low_half : AnyValue → AnyValue
low_half (av.Int n) = av.Int (int_rem_euclid n (pos (2 ^ 64)))
low_half v = av.Null

-- what is saved of a mean whose output columns begin at position j
abbrev pub saved_mean : DataType → ℕ → List AnyValue → List AnyValue
saved_mean dt.String j results = value_at results j ∷ []
saved_mean t j results =
    high_half (value_at results j) ∷ low_half (value_at results j) ∷ value_at results (j + 1) ∷ []

-- what is saved of an aggregate over values of a type whose output columns begin at position j
abbrev pub saved_agg : Kind → DataType → ℕ → List AnyValue → List AnyValue
saved_agg kind.mean t j results = saved_mean t j results
saved_agg k t j results = value_at results j ∷ []

-- what is saved of aggregates whose output columns begin at position j
abbrev pub saved_aggs : ℕ → List Field → List AggTree → List AnyValue → List AnyValue
saved_aggs j schema [] results = []
saved_aggs j schema (a ∷ others) results =
    saved_agg a.kind (input_type schema a.input) j results
    ++ saved_aggs (j + column_count a.kind (input_type schema a.input)) schema others results

-- the row of a frame that a state row is: at its least place, the code of its key, its greatest
-- place, how many its rows are, and its aggregates
abbrev pub saved_row : QueryTree → StateRow → SpillRow
saved_row q r = record {
  place = r.first;
  key = code (key_types q) r.key;
  values = counted r.last.chunk ∷ counted r.last.row ∷ counted r.rows
      ∷ saved_aggs 0 q.schema q.aggs r.results;
}

-- the text of a state: where its range begins and ends, and the frame of its rows
abbrev pub state_text : QueryTree → StateSeen → List ℕ
state_text q s =
    bytes_high_first 4 s.first ++ bytes_high_first 4 s.end
    ++ frame_bytes (state_types q) (map (saved_row q) s.rows)
