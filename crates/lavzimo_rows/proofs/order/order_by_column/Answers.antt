use Rattle.std.proofs.Common.{◌≡◌, ◌∙◌, ℕ, List, Vec, Global, Some, length, map, slice_get, refl, ap}
use Rattle.std.specs.declared.cmp.Ordering.{Ordering}
use Rattle.std.proofs.lemmas.Option.{slice_get_past, slice_get_read}
use Rattle.std.proofs.lemmas.Result.{IfOk-weaker}
use Rattle.pipe_columns.specs.AnyValue.{value_cmp}
use Rattle.pipe_columns.specs.Frame.{ColumnData, row_at}
use Rattle.lavzimo_rows.specs.declared.columns.ShownColumn.{ShownColumn}
use Rattle.lavzimo_rows.specs.Columns.{shown_value}
use Rattle.lavzimo_rows.specs.Shown.{column_cmp, turned}
use Rattle.lavzimo_rows.specs.StableOrder.{in_order}
use Rattle.lavzimo_rows.proofs.ShownFacts.{by_column, by_none}
use Rattle.lavzimo_rows.proofs.order.order_by_column.Goals as goal

pub returns-in-Some : goal.returns-in-Some
returns-in-Some c =
    let shown : List ShownColumn = c.args.shown.now in
    let column : ShownColumn = c.in-Some.column.now in
    let columns : List ColumnData = c.args.columns.now in
    let found : slice_get shown c.args.by.column ≡ Some column = slice_get_read shown (length shown) c.args.by.column column refl c.in-Some.ensures.lookup.3.0 c.in-Some.ensures.lookup.1 in
    let R : ℕ → ℕ → Ordering = λ a b. turned c.args.by.descending (value_cmp (shown_value column.shows (row_at columns a)) (shown_value column.shows (row_at columns b))) in
    IfOk-weaker c.rows_by_column.result (λ (v : Vec ℕ Global). v.items ≡ in_order R c.deref.result.now)
    (λ (v : Vec ℕ Global). map (row_at columns) v.items ≡ in_order (column_cmp shown c.args.by) (map (row_at columns) c.args.rows.items))
    (λ v made. by_column shown c.args.by column columns c.args.rows.items v.items found (made ∙ ap (in_order R) c.deref.ensures.value)) c.rows_by_column.ensures

pub returns-in-None : goal.returns-in-None
returns-in-None c =
    by_none c.args.shown.now c.args.by (map (row_at c.args.columns.now) c.args.rows.items) (slice_get_past c.args.shown.now c.args.by.column c.in-None.ensures.lookup.3)
