-- The values of rows that follow one another, in a list of the values of all rows.
use Rattle.std.proofs.Common.{◌≡◌, ◌∙◌, ℕ, suc, ◌+◌, ◌<◌, ◌≤◌, List, ◌∷◌, length, map, take, drop, get_or, Option, Some, None, Bor, refl, sym, ap, arith, subst}
use Rattle.std.proofs.lemmas.List.{drop_more, ext_get_or, get_or-drop, get_or-map, get_or_past, get_or-take, length-drop, length-map, length-take-le}
use Rattle.std.specs.Prelude.{IfSome}
use Rattle.std.specs.List.{slice_range}
use Rattle.std.specs.Slice.{IsGetRangeResult}
use Rattle.std.proofs.lemmas.Option.{unwrap_or-slice_get}
use Rattle.pipe_columns.specs.declared.any_value.AnyValue.{AnyValue}
use Rattle.pipe_columns.specs.declared.any_value.AnyValue.TheVariants as av
use Rattle.pipe_columns.specs.Frame.{value_at}
use Rattle.pipe_columns.specs.Row.{Row}
use Rattle.pipe_exprs.specs.declared.column_values.ColumnValues.{ColumnValues}
use Rattle.pipe_exprs.specs.Evaluated.{items_of}
use Rattle.pipe_inputs.specs.Cells.{cells, rows_read}
use Rattle.pipe_inputs.specs.ChunkRows.{no_row, row_at}
use Rattle.pipe_inputs.specs.RowRuns.{run_inputs, run_values}
use Rattle.pipe_inputs.proofs.CellFacts.{seen_at}

-- the value of the list at a position
pub cell-at : (lists : List ColumnValues) (n j : ℕ) (d : ColumnValues) → j < length lists → value_at (cells lists n) j ≡ value_at (items_of (get_or lists j d)) n
cell-at lists n j d lt =
    let at : ColumnValues → AnyValue = λ values. value_at (items_of values) n in
    unwrap_or-slice_get (cells lists n) j av.Null ∙ get_or-map at lists j d av.Null lt

-- past the last list there is none
pub cell-past : (lists : List ColumnValues) (n j : ℕ) → length lists ≤ j → value_at (cells lists n) j ≡ av.Null
cell-past lists n j le = unwrap_or-slice_get (cells lists n) j av.Null ∙ get_or_past (cells lists n) j av.Null (omega (arith, le, length-map lists (λ (values : ColumnValues). value_at (items_of values) n)))

module _ (rows : List Row) (i height : ℕ) (ks is : List ColumnValues) (seen : rows_read i height ks is ≡ rows) (j : ℕ) (d : ColumnValues) (within : j < length is) where
  abbrev pub values : List AnyValue
  values = items_of (get_or is j d)

  -- a part of a list of values is what stands in the rows there
  pub run-is : (row len : ℕ) → row + len ≤ length rows → row + len ≤ length values → take len (drop row values) ≡ run_values rows row len j
  run-is row len le few = ext_get_or av.Null _ _ (long ∙ sym size) (λ k lt. at k (omega (arith, lt, long))) where
    long : length (take len (drop row values)) ≡ len
    long = length-take-le len (drop row values) (omega (arith, few, length-drop row values))

    part : List Row
    part = take len (drop row rows)

    short : length part ≡ len
    short = length-take-le len (drop row rows) (omega (arith, le, length-drop row rows))

    size : length (run_values rows row len j) ≡ len
    size = length-map (run_inputs rows row len) (λ (inputs : List AnyValue). value_at inputs j) ∙ length-map part (λ (r : Row). r.inputs) ∙ short

    at : (k : ℕ) → k < len → get_or (take len (drop row values)) k av.Null ≡ get_or (run_values rows row len j) k av.Null
    at k lt =
        let there : row + k < length rows = omega (arith, lt, le) in
        let read : get_or part k no_row ≡ row_at rows (row + k) =
        get_or-take len (drop row rows) k no_row lt ∙ get_or-drop row rows k no_row ∙ sym (unwrap_or-slice_get rows (row + k) no_row) in
        get_or-take len (drop row values) k av.Null lt ∙ get_or-drop row values k av.Null
        ∙ sym (unwrap_or-slice_get values (row + k) av.Null) ∙ sym (cell-at is (row + k) j d within)
        ∙ sym (ap (λ (r : Row). value_at r.inputs j) (seen_at rows i height ks is (row + k) seen there))
        ∙ sym (ap (λ (r : Row). value_at r.inputs j) read)
        ∙ sym (get_or-map (λ (inputs : List AnyValue). value_at inputs j) (run_inputs rows row len) k (no_row.inputs) av.Null (omega (arith, lt, length-map part (λ (r : Row). r.inputs), short))
        ∙ ap (λ (inputs : List AnyValue). value_at inputs j) (get_or-map (λ (r : Row). r.inputs) part k no_row no_row.inputs (omega (arith, lt, short))))

-- the first of the rows, and those behind it
pub run-next : (rows : List Row) (i n j : ℕ) → i < length rows → run_values rows i (suc n) j ≡ value_at (row_at rows i).inputs j ∷ run_values rows (i + 1) n j
run-next rows i n j lt = rw (drop_more rows i no_row lt, unwrap_or-slice_get rows i no_row) refl

-- what a part that is lent is, if it is there
pub if-part : {X : Type 0} (r : Option (Bor (List X))) (xs : List X) (from to : ℕ) (P : Bor (List X) → Type 0) → IsGetRangeResult xs from to r
    → ((x : Bor (List X)) → from ≤ to → to ≤ length xs → x.now ≡ slice_range xs from to → P x) → IfSome r P
if-part None xs from to P h f = tt
if-part (Some x) xs from to P h f = f x h.0.0 h.0.1 h.0.2
