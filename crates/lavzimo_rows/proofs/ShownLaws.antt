-- Shown rows: each once, ascending, and the same wherever they stood.
use Rattle.std.proofs.Common.{◌≡◌, ◌≢◌, ◌+◌, ◌++◌, ℕ, List, Some, take, refl, sym, ap}
use Rattle.std.specs.List.Sorted.{IsPermutation}
use Rattle.std.specs.Cmp.{IsTotalOrder, eq_by_cmp_equiv, on_total}
use Rattle.std.specs.Ordering.{eq_by_cmp}
use Rattle.std.proofs.Math.Seq.{take-add}
use Rattle.std.proofs.lemmas.List.Sorted.{IsPermutation-refl, IsPermutation-sym, IsPermutation-trans}
use Rattle.std.proofs.lemmas.Map.Keys.{IsDistinct-IsPermutation}
use Rattle.pipe_columns.specs.Groups.{IsAscending}
use Rattle.pipe_columns.proofs.ValueOrder.{tuples_total}
use Rattle.pipe_lines.specs.Rows.{Row}
use Rattle.lavzimo_rows.specs.declared.columns.ShownColumn.{ShownColumn}
use Rattle.lavzimo_rows.specs.declared.row_order.RowOrder.{RowOrder}
use Rattle.lavzimo_rows.specs.declared.row_order.RowOrder.TheVariants as order
use Rattle.lavzimo_rows.specs.Laws.{HaveDistinctKeys}
use Rattle.lavzimo_rows.specs.Shown.{ShownData, column_cmp, key_cmp, kept_rows, limited, ordered}
use Rattle.lavzimo_rows.specs.StableOrder.{in_order}
use Rattle.lavzimo_rows.proofs.OrderLaws.{ascending_moved, in_order-ascending, in_order-moved}

-- the order of keys is total
keys_total : (keys : ℕ) → IsTotalOrder (key_cmp keys)
keys_total keys = on_total (λ (r : Row). take keys r) tuples_total

-- an order shows each row once
pub once : (columns : List ShownColumn) (keys : ℕ) (o : RowOrder) (rows : List Row) → IsPermutation rows (ordered columns keys o rows)
once columns keys order.First rows = IsPermutation-refl rows
once columns keys order.Key rows = in_order-moved (key_cmp keys) rows
once columns keys (order.Column by) rows =
    IsPermutation-trans rows (in_order (key_cmp keys) rows) (in_order (column_cmp columns by) (in_order (key_cmp keys) rows))
    (in_order-moved (key_cmp keys) rows) (in_order-moved (column_cmp columns by) (in_order (key_cmp keys) rows))

-- rows with distinct keys ascend by them
pub ascending : (keys : ℕ) (rows : List Row) → HaveDistinctKeys keys rows → IsAscending (key_cmp keys) (in_order (key_cmp keys) rows)
ascending keys rows apart = in_order-ascending (key_cmp keys) (keys_total keys) rows apart

-- rows by their keys, wherever they stood
by_key-moved : (keys : ℕ) (rows others : List Row) → HaveDistinctKeys keys rows → HaveDistinctKeys keys others → IsPermutation rows others
    → in_order (key_cmp keys) rows ≡ in_order (key_cmp keys) others
by_key-moved keys rows others apart distinct moved =
    let R = key_cmp keys in
    ascending_moved R (keys_total keys) (in_order R rows) (in_order R others) (ascending keys rows apart) (ascending keys others distinct)
    (IsPermutation-trans (in_order R rows) rows (in_order R others) (IsPermutation-sym rows (in_order R rows) (in_order-moved R rows))
    (IsPermutation-trans rows others (in_order R others) moved (in_order-moved R others)))

-- rows that are shown, wherever they stood
pub kept-moved : (s : ShownData) (rows others : List Row) → s.order ≢ order.First → HaveDistinctKeys s.keys rows → IsPermutation rows others
    → kept_rows s rows ≡ kept_rows s others
kept-moved s rows others some apart moved = ap (limited s.offset s.limit) (same s.order some) where
  distinct : HaveDistinctKeys s.keys others
  distinct = IsDistinct-IsPermutation (eq_by_cmp (key_cmp s.keys)) (eq_by_cmp_equiv (keys_total s.keys)).symm rows others moved apart

  same : (o : RowOrder) → o ≢ order.First → ordered s.columns s.keys o rows ≡ ordered s.columns s.keys o others
  same order.First other = absurd (other refl)
  same order.Key other = by_key-moved s.keys rows others apart distinct moved
  same (order.Column by) other = ap (in_order (column_cmp s.columns by)) (by_key-moved s.keys rows others apart distinct moved)

-- a window and the one behind it
pub joined : (first next : ℕ) (rows : List Row) → limited 0 (Some first) rows ++ limited first (Some next) rows ≡ limited 0 (Some (first + next)) rows
joined first next rows = sym (take-add first next rows)
