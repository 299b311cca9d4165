-- Inputs of worked rows.
use Rattle.std.specs.Prelude.{ℕ, pos, List, [], ◌∷◌, Bool, codes, Option}
use Rattle.pipe_columns.specs.declared.any_value.AnyValue.{AnyValue}
use Rattle.pipe_columns.specs.declared.any_value.AnyValue.TheVariants as av
use Rattle.pipe_lines.specs.Rows.{Row}
use Rattle.lavzimo_rows.specs.declared.columns.ShownColumn.{ShownColumn}
use Rattle.lavzimo_rows.specs.declared.columns.Shows.TheVariants as shows
use Rattle.lavzimo_rows.specs.declared.row_order.RowOrder.{RowOrder}
use Rattle.lavzimo_rows.specs.declared.row_order.RowOrder.TheVariants as order
use Rattle.lavzimo_rows.specs.Shown.{ShownData}

-- a number that isn't below 0, as a value
abbrev pub int : ℕ → AnyValue
int n = av.Int (pos n)

-- a key, an exact sum and a count
abbrev pub row : AnyValue → ℕ → ℕ → Row
row key sum count = key ∷ int sum ∷ int count ∷ []

-- three rows, as they stand: the means are 2.5, 1 and 2.5
abbrev pub cities : List Row
cities = row (av.Text (codes "Oslo")) 5 2 ∷ row av.Null 4 4 ∷ row (av.Text (codes "Bonn")) 10 4 ∷ []

-- the key and the mean
abbrev pub city_and_mean : List ShownColumn
city_and_mean =
    record { name = codes "city"; shows = shows.Value 0 }
    ∷ record { name = codes "mean"; shows = shows.Mean (record { sum = 1; count = 2 }) } ∷ []

-- the order by the mean
abbrev pub by_mean : Bool → RowOrder
by_mean descending = order.Column (record { column = 1; descending = descending })

-- both are shown, in an order and within bounds
abbrev pub in_order_of : RowOrder → ℕ → Option ℕ → ShownData
in_order_of o offset limit =
    record { columns = city_and_mean; keys = 1; order = o; offset = offset; limit = limit }
