-- One of the rows of a chunk.
use Rattle.std.specs.Prelude.{ℕ, List, [], slice_get, unwrap_or}
use Rattle.pipe_columns.specs.Row.{Row}

-- the row that stands for none
abbrev pub no_row : Row
no_row = record { place = record { chunk = 0; row = 0 }; key = []; inputs = [] }

-- the row at a number
abbrev pub row_at : List Row → ℕ → Row
row_at rows n = unwrap_or (slice_get rows n) no_row
