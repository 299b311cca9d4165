-- Which of an answer's rows are shown, and in which order.
use Rattle.std.specs.Prelude.{ℕ, List, take, drop, Bool, Option, Some, None, if◌then◌else◌}
use Rattle.std.specs.declared.cmp.Ordering.{Ordering}
use Rattle.std.specs.Ordering.{ordering_reverse}
use Rattle.pipe_columns.specs.AnyValue.{value_cmp}
use Rattle.pipe_columns.specs.Frame.{value_at}
use Rattle.pipe_lines.specs.Rows.{Row}
use Rattle.pipe_model.specs.Answer.{tuple_cmp}
use Rattle.lavzimo_rows.specs.declared.columns.ShownColumn.{ShownColumn}
use Rattle.lavzimo_rows.specs.declared.row_order.ColumnOrder.{ColumnOrder}
use Rattle.lavzimo_rows.specs.declared.row_order.RowOrder.{RowOrder}
use Rattle.lavzimo_rows.specs.declared.row_order.RowOrder.TheVariants as order
use Rattle.lavzimo_rows.specs.Columns.{shown_row}
use Rattle.lavzimo_rows.specs.StableOrder.{in_order}

-- what is shown of an answer: columns, how many of the answer's columns are its keys, the order of
-- rows, how many of them are passed over, and how many are shown at most
pub record ShownData : Type 0 where
  pub columns : List ShownColumn
  pub keys : ℕ
  pub order : RowOrder
  pub offset : ℕ
  pub limit : Option ℕ

-- by the tuples of keys, which rows begin with
abbrev pub key_cmp : ℕ → Row → Row → Ordering
key_cmp keys a b = tuple_cmp (take keys a) (take keys b)

-- an order, or the other way round
abbrev pub turned : Bool → Ordering → Ordering
turned descending r = if descending then ordering_reverse r else r

-- by the values that a column shows: upwards nulls come first
abbrev pub column_cmp : List ShownColumn → ColumnOrder → Row → Row → Ordering
column_cmp columns by a b = turned by.descending
    (value_cmp (value_at (shown_row columns a) by.column) (value_at (shown_row columns b) by.column))

-- rows in an order: as they stand, by their keys, or by what a column shows, where rows that show
-- the same stand by their keys
abbrev pub ordered : List ShownColumn → ℕ → RowOrder → List Row → List Row
ordered columns keys order.First rows = rows
ordered columns keys order.Key rows = in_order (key_cmp keys) rows
ordered columns keys (order.Column by) rows =
    in_order (column_cmp columns by) (in_order (key_cmp keys) rows)

-- a list without its first elements, and with so many of the rest at most
abbrev pub limited : {X : Type 0} → ℕ → Option ℕ → List X → List X
limited offset None xs = drop offset xs
limited offset (Some limit) xs = take limit (drop offset xs)

-- the rows of an answer that are shown, in their order
abbrev pub kept_rows : ShownData → List Row → List Row
kept_rows s rows = limited s.offset s.limit (ordered s.columns s.keys s.order rows)
