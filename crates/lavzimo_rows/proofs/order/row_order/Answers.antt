use Rattle.std.proofs.Common.{◌≡◌, ◌∙◌, ℕ, List, Vec, Global, map, take, sym, subst}
use Rattle.std.specs.List.{range_with_len}
use Rattle.std.proofs.lemmas.Result.{IfOk-weaker}
use Rattle.pipe_columns.specs.Frame.{ColumnData, FrameData, row_at}
use Rattle.pipe_lines.specs.Rows.{frame_rows}
use Rattle.pipe_model.specs.Answer.{tuple_cmp}
use Rattle.lavzimo_rows.specs.declared.row_order.RowOrder.{RowOrder}
use Rattle.lavzimo_rows.specs.declared.row_order.RowOrder.TheVariants as order
use Rattle.lavzimo_rows.specs.Shown.{ShownData, column_cmp, ordered}
use Rattle.lavzimo_rows.specs.StableOrder.{in_order}
use Rattle.lavzimo_rows.proofs.ShownFacts.{column_order, key_order}
use Rattle.lavzimo_rows.proofs.order.row_order.Goals as goal

pub returns-in-Key : goal.returns-in-Key
returns-in-Key c =
    let s : ShownData = c.args.shown.now in
    let frame : FrameData = c.args.frame.now in
    let first : List ColumnData = c.key_columns-keys.result.now in
    let asked : s.order ≡ order.Key = cc in
    let are : first ≡ take s.keys frame.columns = c.key_columns-keys.ensures ∙ (λ i. take (c.keys.ensures i) (c.columns-columns.ensures.columns i)) in
    IfOk-weaker c.rows_by_key.result
    (λ (v : Vec ℕ Global). v.items ≡ in_order (λ (a b : ℕ). tuple_cmp (row_at first a) (row_at first b)) (range_with_len 0 c.height-in-Key.result))
    (λ (v : Vec ℕ Global). map (row_at frame.columns) v.items ≡ ordered s.columns s.keys s.order (frame_rows frame))
    (λ v made. subst (λ (o : RowOrder). map (row_at frame.columns) v.items ≡ ordered s.columns s.keys o (frame_rows frame)) (sym asked)
    (key_order s.keys c.height-in-Key.result frame first v.items are c.height-in-Key.ensures.height made)) c.rows_by_key.ensures

pub returns-in_ok-rows-in-Column : goal.returns-in_ok-rows-in-Column
returns-in_ok-rows-in-Column c =
    let s : ShownData = c.args.shown.now in
    let frame : FrameData = c.args.frame.now in
    let columns : List ColumnData = c.columns-columns.result.now in
    let first : List ColumnData = c.key_columns-keys.result.now in
    let rows : List ℕ = c.in_ok-rows-in-Column.rows.items in
    let asked : s.order ≡ order.Column c.in-Column.by = cc in
    let are : first ≡ take s.keys frame.columns = c.key_columns-keys.ensures ∙ (λ i. take (c.keys.ensures i) (c.columns-columns.ensures.columns i)) in
    IfOk-weaker c.order_by_column.result
    (λ (v : Vec ℕ Global). map (row_at columns) v.items ≡ in_order (column_cmp c.columns.result.now c.in-Column.by) (map (row_at columns) rows))
    (λ (v : Vec ℕ Global). map (row_at frame.columns) v.items ≡ ordered s.columns s.keys s.order (frame_rows frame))
    (λ v made. subst (λ (o : RowOrder). map (row_at frame.columns) v.items ≡ ordered s.columns s.keys o (frame_rows frame)) (sym asked)
    (column_order s.keys c.height-in-Column.result frame first columns s.columns c.columns.result.now c.in-Column.by rows v.items are c.height-in-Column.ensures.height c.columns-columns.ensures.columns c.columns.ensures c.in_ok-rows-in-Column.ensures made)) c.order_by_column.ensures
