-- Of the proofs alone: extents at indices, and rows that are taken out of lists of values.
use Rattle.std.specs.Prelude.{◌+◌, ℕ, if◌then◌else◌, List, map, slice_index_or}
use Rattle.std.specs.Ordering.{is_lt}
use Rattle.pipe_columns.specs.declared.any_value.AnyValue.{AnyValue}
use Rattle.pipe_columns.specs.declared.place.Place.{Place}
use Rattle.pipe_columns.specs.Frame.{value_at}
use Rattle.pipe_columns.specs.Place.{place_cmp}
use Rattle.pipe_saving.specs.declared.extent.Extent.{Extent}
use Rattle.pipe_states.specs.declared.state_row.StateRow.{StateRow}

-- what stands for a place past the last
abbrev pub no_place : Place
no_place = record { chunk = 0; row = 0 }

-- what stands for an extent past the last
abbrev pub no_extent : Extent
no_extent = record { last = no_place; rows = 0 }

-- the extent at an index
abbrev pub extent_at : List Extent → ℕ → Extent
extent_at extents i = slice_index_or extents i no_extent

-- an extent with the place of one more row
abbrev pub with_place : Place → Extent → Extent
with_place p e = record {
  last = if is_lt (place_cmp e.last p) then p else e.last;
  rows = e.rows + 1;
}

-- the values at a number in lists, one of each
abbrev pub values_in : ℕ → List (List AnyValue) → List AnyValue
values_in n lists = map (λ l. value_at l n) lists

-- the state row at a number: its key and its results out of lists, its first place, and its extent
abbrev pub row_in :
    List (List AnyValue) → List (List AnyValue) → List Place → List Extent → ℕ → StateRow
row_in keys results firsts extents n = record {
  key = values_in n keys;
  first = slice_index_or firsts n no_place;
  last = (extent_at extents n).last;
  rows = (extent_at extents n).rows;
  results = values_in n results;
}
