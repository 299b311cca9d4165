-- The rows of a chunk, as they are read from lists of values.
use Rattle.std.proofs.Common.{◌≡◌, ◌∙◌, ℕ, ◌<◌, List, length, map, get_or, refl, sym, ap, subst, arith}
use Rattle.std.specs.Prelude.{All}
use Rattle.std.specs.List.{range_with_len}
use Rattle.std.proofs.lemmas.Simd.{map-map}
use Rattle.std.proofs.lemmas.List.FromFn.{fill_by_all, get_or-map-range_with_len, length-map-range_with_len}
use Rattle.std.proofs.lemmas.List.{length-map}
use Rattle.std.proofs.lemmas.List.Elements.{All-map}
use Rattle.std.proofs.lemmas.Option.{unwrap_or-slice_get}
use Rattle.pipe_columns.specs.declared.any_value.AnyValue.{AnyValue}
use Rattle.pipe_columns.specs.declared.any_value.AnyValue.TheVariants as av
use Rattle.pipe_columns.specs.Frame.{FrameData, value_at}
use Rattle.pipe_columns.specs.Row.{Row}
use Rattle.pipe_exprs.specs.declared.column_values.ColumnValues.{ColumnValues}
use Rattle.pipe_exprs.specs.Evaluated.{items_of, row_values}
use Rattle.pipe_model.specs.Expr.{Expr}
use Rattle.pipe_model.specs.Query.{each, Input, QueryTree, rows_alone}
use Rattle.pipe_model.specs.Value.{value}
use Rattle.pipe_model.specs.Rows.{chunk_rows, input_value, row_of}
use Rattle.pipe_inputs.specs.Cells.{cells, input_values, row_read, rows_read}
use Rattle.pipe_inputs.specs.ChunkRows.{no_row, row_at}

-- ---- one row

-- the value in a row of the values of all rows
value_in : (e : Expr) (frame : FrameData) (n : ℕ) → n < frame.height → value_at (row_values e frame) n ≡ value e frame n
value_in e frame n h =
    unwrap_or-slice_get (row_values e frame) n av.Null
    ∙ get_or-map-range_with_len (λ row. value e frame row) 0 frame.height n n av.Null h (omega arith)

input_in : (input : Input) (frame : FrameData) (n : ℕ) → n < frame.height → value_at (input_values input frame) n ≡ input_value input frame n
input_in (each e) frame n h = value_in e frame n h
input_in rows_alone frame n h = refl

-- the cells of lists that hold the values of some things
cells_are : {X : Type 0} (of : X → List AnyValue) (at : X → AnyValue) (n : ℕ) (xs : List X) (lists : List ColumnValues) → ((x : X) → value_at (of x) n ≡ at x)
    → map items_of lists ≡ map of xs → cells lists n ≡ map at xs
cells_are of at n xs lists same e =
    sym (map-map (λ values. value_at values n) items_of lists) ∙ ap (map (λ values. value_at values n)) e
    ∙ map-map (λ values. value_at values n) of xs ∙ ap (λ f. map f xs) (λ i x. same x i)

-- a row that is read from the lists of a query is the row of the query
row_read_is : (q : QueryTree) (i n : ℕ) (frame : FrameData) (ks is : List ColumnValues) → n < frame.height
    → map items_of ks ≡ map (λ e. row_values e frame) q.keys → map items_of is ≡ map (λ a. input_values a.input frame) q.aggs
    → row_read i ks is n ≡ row_of q i frame n
row_read_is q i n frame ks is h he ha =
    let keys : cells ks n ≡ map (λ e. value e frame n) q.keys =
    cells_are (λ e. row_values e frame) (λ e. value e frame n) n q.keys ks (λ e. value_in e frame n h) he in
    let inputs : cells is n ≡ map (λ a. input_value a.input frame n) q.aggs =
    cells_are (λ a. input_values a.input frame) (λ a. input_value a.input frame n) n q.aggs is (λ a. input_in a.input frame n h) ha in
    rw (keys, inputs) refl

-- ---- all rows

-- the rows that are read from the lists of a query are those of the chunk
pub rows_read_are : (q : QueryTree) (i height : ℕ) (frame : FrameData) (ks is : List ColumnValues) → height ≡ frame.height
    → map items_of ks ≡ map (λ e. row_values e frame) q.keys → map items_of is ≡ map (λ a. input_values a.input frame) q.aggs
    → rows_read i height ks is ≡ chunk_rows q i frame
rows_read_are q i height frame ks is all he ha =
    rw all (fill_by_all (row_of q i frame) (rows_read i frame.height ks is) frame.height no_row
    (length-map-range_with_len (row_read i ks is) 0 frame.height)
    (λ n h. get_or-map-range_with_len (row_read i ks is) 0 frame.height n n no_row h (omega arith) ∙ row_read_is q i n frame ks is h he ha))

-- rows that are read: how many there are, one of them, and how long their keys are
pub length-seen : (rows : List Row) (i height : ℕ) (ks is : List ColumnValues) → rows_read i height ks is ≡ rows → height ≡ length rows
length-seen rows i height ks is seen = sym (length-map-range_with_len (row_read i ks is) 0 height) ∙ ap length seen

pub seen_at : (rows : List Row) (i height : ℕ) (ks is : List ColumnValues) (n : ℕ) → rows_read i height ks is ≡ rows → n < length rows → row_at rows n ≡ row_read i ks is n
seen_at rows i height ks is n seen h =
    ap (λ (t : List Row). row_at t n) (sym seen) ∙ unwrap_or-slice_get (rows_read i height ks is) n no_row
    ∙ get_or-map-range_with_len (row_read i ks is) 0 height n n no_row (omega (arith, length-seen rows i height ks is seen)) (omega arith)

pub keys-seen : (rows : List Row) (i height : ℕ) (ks is : List ColumnValues) → rows_read i height ks is ≡ rows → All (λ r. length r.key ≡ length ks) rows
keys-seen rows i height ks is seen =
    subst (All (λ (r : Row). length r.key ≡ length ks)) seen
    (All-map (λ (r : Row). length r.key ≡ length ks) (row_read i ks is) (range_with_len 0 height)
    (λ k d l. length-map ks (λ (values : ColumnValues). value_at (items_of values) (get_or (range_with_len 0 height) k d))))

-- and how many inputs they have
pub inputs-seen : (rows : List Row) (i height : ℕ) (ks is : List ColumnValues) → rows_read i height ks is ≡ rows → All (λ r. length r.inputs ≡ length is) rows
inputs-seen rows i height ks is seen =
    subst (All (λ (r : Row). length r.inputs ≡ length is)) seen
    (All-map (λ (r : Row). length r.inputs ≡ length is) (row_read i ks is) (range_with_len 0 height)
    (λ k d l. length-map is (λ (values : ColumnValues). value_at (items_of values) (get_or (range_with_len 0 height) k d))))

-- one of the rows of a chunk
pub row_at-chunk : (q : QueryTree) (i : ℕ) (frame : FrameData) (n : ℕ) → n < frame.height → row_at (chunk_rows q i frame) n ≡ row_of q i frame n
row_at-chunk q i frame n h =
    unwrap_or-slice_get (chunk_rows q i frame) n no_row
    ∙ get_or-map-range_with_len (row_of q i frame) 0 frame.height n n no_row h (omega arith)
