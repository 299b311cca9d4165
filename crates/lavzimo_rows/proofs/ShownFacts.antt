-- Rows in the order in which they are shown.
use Rattle.std.proofs.Common.{◌≡◌, ◌∙◌, ◌∷◌, [], ℕ, true, false, List, Bool, Option, Some, None, map, take, drop, is_lt, slice_get, refl, sym, ap}
use Rattle.std.specs.List.{range_with_len}
use Rattle.std.specs.declared.cmp.Ordering.{Ordering}
use Rattle.std.specs.declared.cmp.Ordering.TheVariants.{Equal}
use Rattle.std.proofs.lemmas.Bool.{cond-false}
use Rattle.std.proofs.lemmas.List.{drop-map, take-map}
use Rattle.std.proofs.lemmas.Option.{slice_get-map}
use Rattle.pipe_columns.specs.declared.any_value.AnyValue.TheVariants as av
use Rattle.pipe_columns.specs.AnyValue.{value_cmp}
use Rattle.pipe_columns.specs.Frame.{ColumnData, FrameData, row_at, value_at}
use Rattle.pipe_lines.specs.Rows.{Row, frame_rows}
use Rattle.pipe_model.specs.Answer.{tuple_cmp}
use Rattle.lavzimo_rows.specs.declared.columns.ShownColumn.{ShownColumn}
use Rattle.lavzimo_rows.specs.declared.row_order.ColumnOrder.{ColumnOrder}
use Rattle.lavzimo_rows.specs.Columns.{shown_row, shown_value}
use Rattle.lavzimo_rows.specs.Shown.{column_cmp, key_cmp, limited, turned}
use Rattle.lavzimo_rows.specs.StableOrder.{in_order, put_in}
use Rattle.lavzimo_rows.proofs.OrderFacts.{map-in_order}

-- ---- by keys

-- the keys of a row are the row of the key columns
keys_at : (keys : ℕ) (columns : List ColumnData) (i : ℕ) → row_at (take keys columns) i ≡ take keys (row_at columns i)
keys_at keys columns i = sym (take-map (λ (c : ColumnData). value_at c.values i) keys columns)

-- rows whose numbers are in the order of the key columns are in that of their keys
pub by_key : (keys : ℕ) (frame : FrameData) (first : List ColumnData) (rows : List ℕ) → first ≡ take keys frame.columns
    → rows ≡ in_order (λ (a b : ℕ). tuple_cmp (row_at first a) (row_at first b)) (range_with_len 0 frame.height)
    → map (row_at frame.columns) rows ≡ in_order (key_cmp keys) (frame_rows frame)
by_key keys frame first rows are made =
    let columns : List ColumnData = frame.columns in
    let all : List ℕ = range_with_len 0 frame.height in
    let at : (i : ℕ) → row_at first i ≡ take keys (row_at columns i) = λ i. ap (λ (cs : List ColumnData). row_at cs i) are ∙ keys_at keys columns i in
    let same : in_order (λ (a b : ℕ). tuple_cmp (row_at first a) (row_at first b)) all ≡ in_order (λ (a b : ℕ). key_cmp keys (row_at columns a) (row_at columns b)) all = λ i. in_order (λ (a b : ℕ). tuple_cmp (at a i) (at b i)) all in
    ap (map (row_at columns)) (made ∙ same) ∙ map-in_order (row_at columns) (key_cmp keys) all

-- ---- by a column

-- what the column at a place shows
shown_at : (shown : List ShownColumn) (column : ShownColumn) (i : ℕ) (row : Row) → slice_get shown i ≡ Some column → value_at (shown_row shown row) i ≡ shown_value column.shows row
shown_at shown column i row found =
    let there = slice_get-map (λ (c : ShownColumn). shown_value c.shows row) shown i in
    rw (there, found) refl

-- past the last column nothing is shown
shown_past : (shown : List ShownColumn) (i : ℕ) (row : Row) → slice_get shown i ≡ None → value_at (shown_row shown row) i ≡ av.Null
shown_past shown i row none =
    let there = slice_get-map (λ (c : ShownColumn). shown_value c.shows row) shown i in
    rw (there, none) refl

-- rows whose numbers are in the order of what a column shows are in that order
pub by_column : (shown : List ShownColumn) (by : ColumnOrder) (column : ShownColumn) (columns : List ColumnData) (rows order : List ℕ) → slice_get shown by.column ≡ Some column
    → order ≡ in_order (λ (a b : ℕ). turned by.descending (value_cmp (shown_value column.shows (row_at columns a)) (shown_value column.shows (row_at columns b)))) rows
    → map (row_at columns) order ≡ in_order (column_cmp shown by) (map (row_at columns) rows)
by_column shown by column columns rows order found made =
    let R : Row → Row → Ordering = λ x y. turned by.descending (value_cmp (shown_value column.shows x) (shown_value column.shows y)) in
    let same : in_order R (map (row_at columns) rows) ≡ in_order (column_cmp shown by) (map (row_at columns) rows) =
    λ i. in_order (λ (x y : Row). turned by.descending (value_cmp (sym (shown_at shown column by.column x found) i) (sym (shown_at shown column by.column y found) i))) (map (row_at columns) rows) in
    ap (map (row_at columns)) made ∙ map-in_order (row_at columns) R rows ∙ same

-- where all elements tie, all stay
module _ {X : Type 0} (order : X → X → Ordering) (tied : (a b : X) → is_lt (order a b) ≡ false) where
  stays : (x : X) (ys : List X) → x ∷ ys ≡ put_in order x ys
  stays x [] = refl
  stays x (y ∷ ys) = sym (cond-false _ _ _ (tied y x))

  all_tie : (xs : List X) → xs ≡ in_order order xs
  all_tie [] = refl
  all_tie (x ∷ xs) = ap (λ (l : List X). x ∷ l) (all_tie xs) ∙ stays x (in_order order xs)

-- an order by a column that isn't there moves no row
pub by_none : (shown : List ShownColumn) (by : ColumnOrder) (rows : List Row) → slice_get shown by.column ≡ None → rows ≡ in_order (column_cmp shown by) rows
by_none shown by rows none = all_tie (column_cmp shown by) tied rows where
  level : (descending : Bool) → is_lt (turned descending Equal) ≡ false
  level false = refl
  level true = refl

  tied : (a b : Row) → is_lt (column_cmp shown by a b) ≡ false
  tied a b = ap (λ v. is_lt (turned by.descending (value_cmp v (value_at (shown_row shown b) by.column)))) (shown_past shown by.column a none)
      ∙ ap (λ v. is_lt (turned by.descending (value_cmp av.Null v))) (shown_past shown by.column b none) ∙ level by.descending

-- ---- windows

-- what is given of a window of a list
pub map-limited : {X Y : Type 0} (f : X → Y) (offset : ℕ) (limit : Option ℕ) (xs : List X) → map f (limited offset limit xs) ≡ limited offset limit (map f xs)
map-limited f offset None xs = sym (drop-map f offset xs)
map-limited f offset (Some n) xs = sym (take-map f n (drop offset xs)) ∙ ap (take n) (sym (drop-map f offset xs))

-- ---- in the terms of calls

-- rows in the order of keys
pub key_order : (keys height : ℕ) (frame : FrameData) (first : List ColumnData) (rows : List ℕ) → first ≡ take keys frame.columns → height ≡ frame.height
    → rows ≡ in_order (λ (a b : ℕ). tuple_cmp (row_at first a) (row_at first b)) (range_with_len 0 height)
    → map (row_at frame.columns) rows ≡ in_order (key_cmp keys) (frame_rows frame)
key_order keys height frame first rows are tall made =
    by_key keys frame first rows are (made ∙ ap (λ n. in_order (λ (a b : ℕ). tuple_cmp (row_at first a) (row_at first b)) (range_with_len 0 n)) tall)

-- and then in that of a column
pub column_order : (keys height : ℕ) (frame : FrameData) (first columns : List ColumnData) (shown lent : List ShownColumn) (by : ColumnOrder) (rows order : List ℕ)
    → first ≡ take keys frame.columns → height ≡ frame.height → columns ≡ frame.columns → lent ≡ shown
    → rows ≡ in_order (λ (a b : ℕ). tuple_cmp (row_at first a) (row_at first b)) (range_with_len 0 height)
    → map (row_at columns) order ≡ in_order (column_cmp lent by) (map (row_at columns) rows)
    → map (row_at frame.columns) order ≡ in_order (column_cmp shown by) (in_order (key_cmp keys) (frame_rows frame))
column_order keys height frame first columns shown lent by rows order are tall same named made moved =
    (λ i. map (row_at (sym same i)) order) ∙ moved ∙ (λ i. in_order (column_cmp (named i) by) (map (row_at (same i)) rows))
    ∙ ap (in_order (column_cmp shown by)) (key_order keys height frame first rows are tall made)
