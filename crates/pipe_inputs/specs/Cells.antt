-- Of the proofs alone: rows, read off lists of values.
use Rattle.std.specs.Prelude.{ℕ, List, [], map}
use Rattle.std.specs.List.{range_with_len}
use Rattle.pipe_columns.specs.declared.any_value.AnyValue.{AnyValue}
use Rattle.pipe_columns.specs.Frame.{FrameData, value_at}
use Rattle.pipe_columns.specs.Row.{Row}
use Rattle.pipe_exprs.specs.declared.column_values.ColumnValues.{ColumnValues}
use Rattle.pipe_exprs.specs.Evaluated.{items_of, row_values}
use Rattle.pipe_model.specs.Query.{each, Input, rows_alone}

-- what an aggregate is fed in the rows of a frame: no value where only rows count
abbrev pub input_values : Input → FrameData → List AnyValue
input_values (each e) frame = row_values e frame
input_values rows_alone frame = []

-- the value of each list in a row, null past its end
abbrev pub cells : List ColumnValues → ℕ → List AnyValue
cells lists n = map (λ values. value_at (items_of values) n) lists

-- a row of the chunk at a position, by a list of values for each key and for each input
abbrev pub row_read : ℕ → List ColumnValues → List ColumnValues → ℕ → Row
row_read index keys inputs n = record {
  place = record { chunk = index; row = n };
  key = cells keys n;
  inputs = cells inputs n;
}

-- so many rows
abbrev pub rows_read : ℕ → ℕ → List ColumnValues → List ColumnValues → List Row
rows_read index height keys inputs = map (row_read index keys inputs) (range_with_len 0 height)
