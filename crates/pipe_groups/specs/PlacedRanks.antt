-- Of the proofs alone: rows that are put in the order of their places.
use Rattle.std.specs.Prelude.{◌≡◌, ◌<◌, ℕ, false, List, length, map, slice_index_or, unwrap_or}
use Rattle.std.specs.List.{position}
use Rattle.std.specs.Ordering.{eq_by_cmp}
use Rattle.pipe_columns.specs.declared.place.Place.{Place}
use Rattle.pipe_columns.specs.Frame.{ColumnData, value_at}
use Rattle.pipe_columns.specs.Place.{place_cmp}
use Rattle.pipe_groups.specs.declared.place_order.PlacedRow.{PlacedRow}

-- the position of a place in a list
abbrev pub place_at : List Place → Place → ℕ
place_at places p = unwrap_or (position (eq_by_cmp place_cmp p) places) 0

-- what stands in another list at the position of a place
abbrev pub turn_at : List Place → List ℕ → Place → ℕ
turn_at places order p = slice_index_or order (place_at places p) 0

-- it is a row of a list of places, with its own place
pub record IsRowAt (places : List Place) (r : PlacedRow) : Type 0 where
  pub within : r.row < length places
  pub place : r.place ≡ slice_index_or places r.row r.place

-- a column of rows of another, in some order
abbrev pub picked : List ℕ → ColumnData → ColumnData
picked rows c = record {
  name = c.name;
  dtype = c.dtype;
  sorted = false;
  values = map (λ i. value_at c.values i) rows;
}
