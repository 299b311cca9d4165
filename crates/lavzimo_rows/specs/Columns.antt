-- What columns show of an answer's rows.
use Rattle.std.specs.Prelude.{List, map, Bool, true, false}
use Rattle.pipe_columns.specs.declared.any_value.AnyValue.{AnyValue}
use Rattle.pipe_columns.specs.Frame.{value_at}
use Rattle.pipe_lines.specs.Rows.{Row}
use Rattle.lavzimo_rows.specs.declared.columns.Shows.{Shows}
use Rattle.lavzimo_rows.specs.declared.columns.Shows.TheVariants as shows
use Rattle.lavzimo_rows.specs.declared.columns.ShownColumn.{ShownColumn}
use Rattle.lavzimo_rows.specs.Mean.{mean_value}

-- whether a column shows means
abbrev pub is_mean : Shows → Bool
is_mean (shows.Value column) = false
is_mean (shows.Mean of) = true

-- what a column shows of a row: a value, or the millionths of a mean
abbrev pub shown_value : Shows → Row → AnyValue
shown_value (shows.Value column) row = value_at row column
shown_value (shows.Mean of) row = mean_value (value_at row of.sum) (value_at row of.count)

-- what columns show of a row
abbrev pub shown_row : List ShownColumn → Row → Row
shown_row columns row = map (λ c. shown_value c.shows row) columns
