-- The state of rows: what each of their keys comes to.
use Rattle.std.specs.Prelude.{ℕ, List, length, map, Option, Some, None}
use Rattle.pipe_columns.specs.declared.any_value.AnyValue.{AnyValue}
use Rattle.pipe_columns.specs.declared.place.Place.{Place}
use Rattle.pipe_columns.specs.Groups.{sorted_keys}
use Rattle.pipe_columns.specs.Place.{first_entry, last_entry}
use Rattle.pipe_columns.specs.Row.{Row}
use Rattle.pipe_model.specs.Answer.{aggs_from, rows_at, tuple_cmp}
use Rattle.pipe_model.specs.Query.{QueryTree}
use Rattle.pipe_model.specs.Rows.{keys_of}
use Rattle.pipe_states.specs.declared.state_row.StateRow.{StateRow}

-- a saved state: the positions of its chunks, from the first up to but without the end, and a row
-- for each key
pub record StateSeen : Type 0 where
  pub first : ℕ
  pub end : ℕ
  pub rows : List StateRow

-- the place of an entry, the least of all for none
abbrev pub place_of : {V : Type 0} → Option (Place × V) → Place
place_of None = record { chunk = 0; row = 0 }
place_of (Some e) = e.0

-- what the rows of a key come to
abbrev pub state_row : QueryTree → List Row → List AnyValue → StateRow
state_row q rs key = record {
  key = key;
  first = place_of (first_entry (rows_at rs key));
  last = place_of (last_entry (rows_at rs key));
  rows = length (rows_at rs key);
  results = aggs_from 0 q.schema q.aggs (rows_at rs key);
}

-- the distinct key tuples of rows, in order of tuple
abbrev pub tuples_of : List Row → List (List AnyValue)
tuples_of rs = sorted_keys tuple_cmp (keys_of rs)

-- the state rows of rows: one for each distinct key tuple, in order of tuple
abbrev pub state_rows : QueryTree → List Row → List StateRow
state_rows q rs = map (state_row q rs) (tuples_of rs)

-- the state of rows whose chunks have positions from first up to but without end
abbrev pub state : QueryTree → List Row → ℕ → ℕ → StateSeen
state q rs first end = record { first = first; end = end; rows = state_rows q rs }
