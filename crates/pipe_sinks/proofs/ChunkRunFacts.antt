-- Rows and runs of a chunk that a table takes.
use Rattle.std.proofs.Common.{◌≡◌, ◌∙◌, ℕ, ◌+◌, ◌<◌, ◌≤◌, List, [], ◌∷◌, length, take, drop, get_or, refl, sym, ap, subst, arith}
use Rattle.std.proofs.lemmas.List.{drop_more, get_or-map, length-drop, length-map, length-take-le}
use Rattle.std.proofs.lemmas.List.Elements.{All-from_get_or, All-map}
use Rattle.std.proofs.lemmas.List.FromFn.{length-map-range_with_len}
use Rattle.std.proofs.lemmas.Option.{unwrap_or-slice_get}
use Rattle.pipe_columns.specs.declared.any_value.AnyValue.{AnyValue}
use Rattle.pipe_columns.specs.declared.any_value.AnyValue.TheVariants as av
use Rattle.pipe_columns.specs.declared.data_chunk.DataChunk.{DataChunk}
use Rattle.pipe_columns.specs.declared.data_type.DataType.{DataType}
use Rattle.pipe_columns.specs.Frame.{ColumnData, value_at}
use Rattle.pipe_columns.specs.Row.{Row}
use Rattle.pipe_aggs.specs.declared.query.Query.{Query}
use Rattle.pipe_aggs.specs.CheckedQuery.{input_types}
use Rattle.pipe_aggs.specs.QueryTrees.{query_tree}
use Rattle.pipe_inputs.specs.ChunkRows.{no_row, row_at}
use Rattle.pipe_inputs.specs.RowTypes.{IsRowOf}
use Rattle.pipe_inputs.proofs.CellFacts.{row_at-chunk}
use Rattle.pipe_model.specs.Output.{key_types}
use Rattle.pipe_model.specs.Query.{QueryTree}
use Rattle.pipe_model.specs.Rows.{chunk_rows, row_of}
use Rattle.pipe_spill.specs.KeyTypes.{AreOfTypes}
use Rattle.pipe_spill.specs.SpillRow.{AreRows, IsRow, spilled}
use Rattle.pipe_groups.specs.Holds.{HoldFewer}
use Rattle.pipe_groups.specs.Shape.{Shape, shape_of}
use Rattle.pipe_keyed.specs.TakenRows.{spilled_first, TookFirstRows}
use Rattle.pipe_sinks.specs.ChunkTaking.{AreKeysOf, TakesRows}
use Rattle.pipe_sinks.specs.KeyRuns.{IsRun, run_rows}
use Rattle.pipe_sinks.specs.SoleKeys.{IsSole}
use Rattle.pipe_sinks.specs.Runs.{IsKeyColumn}
use Rattle.pipe_keyed.specs.Tables.{Table}
use Rattle.pipe_keyed.proofs.TookFacts.{room-for, row-typed, rows-typed}
use Rattle.pipe_sinks.proofs.KeyRunFacts.{run-at}
use Rattle.pipe_sinks.proofs.SoleFacts.{sole-key}

module _ (query : Query) (c : DataChunk) (rows : List Row) (old now : Table) (n : ℕ) (h : TakesRows query c rows old) (shape-is : now.shape ≡ old.shape) where
  abbrev q : QueryTree
  q = query_tree query

  -- there are as many rows as the frame is high
  pub rows-long : length rows ≡ c.frame.height
  rows-long = ap (λ (rs : List Row). length rs) h.rows_are ∙ length-map-range_with_len (λ m. row_of q c.chunk_index c.frame m) 0 c.frame.height

  pub shape-now : now.shape ≡ shape_of q
  shape-now = shape-is ∙ h.shape

  pub types-now : (types : List DataType) → types ≡ key_types q → types ≡ now.shape.key_types
  types-now types e = e ∙ sym (ap (λ (s : Shape). s.key_types) shape-now)

  pub sole-now : IsSole now.shape.key_types
  sole-now = subst (λ (s : Shape). IsSole s.key_types) (sym shape-now) h.sole

  row-of : (m : ℕ) → m < c.frame.height → row_at rows m ≡ row_of q c.chunk_index c.frame m
  row-of m lt = ap (λ (rs : List Row). row_at rs m) h.rows_are ∙ row_at-chunk q c.chunk_index c.frame m lt

  is-row : (m : ℕ) → m < c.frame.height → IsRowOf q (row_at rows m)
  is-row m lt = subst (IsRowOf q) (sym (unwrap_or-slice_get rows m no_row)) (h.typed m no_row (omega (arith, lt, rows-long)))

  one-typed : (m : ℕ) → m < c.frame.height → IsRow (key_types q) (input_types q) (spilled (key_types q) (row_at rows m))
  one-typed m lt =
      subst (λ (r : Row). IsRow (key_types q) (input_types q) (spilled (key_types q) r)) (sym (row-of m lt))
      (row-typed q c.chunk_index c.frame m rows h.rows_are h.typed h.index h.height lt)

  front : n ≤ c.frame.height → AreRows (key_types q) (input_types q) (spilled_first q c.chunk_index c.frame n)
  front le = rows-typed q c.chunk_index c.frame n rows h.rows_are h.typed h.index h.height le

  pub room-now : TookFirstRows (query_tree query) c.chunk_index c.frame n old now → (m : ℕ) → n + m ≤ c.frame.height → HoldFewer now.shape now.groups m
  room-now took m le = room-for q c.chunk_index c.frame n m old now took h.shape h.few (front (omega (arith, le))) le

  -- ---- one row

  module _ (lt : n < c.frame.height) where
    pub row-key : AreOfTypes now.shape.key_types (row_at rows n).key
    row-key = subst (λ (s : Shape). AreOfTypes s.key_types (row_at rows n).key) (sym shape-now) (is-row n lt).key.fit

    pub row-is : IsRow now.shape.key_types now.shape.input_types (spilled now.shape.key_types (row_at rows n))
    row-is = subst (λ (s : Shape). IsRow s.key_types s.input_types (spilled s.key_types (row_at rows n))) (sym shape-now) (one-typed n lt)

  -- ---- a run

  module _ (keys : List AnyValue) (are : AreKeysOf rows keys) (end len : ℕ) (some : n < end) (within : end ≤ c.frame.height) (size : n + len ≡ end)
      (same : (m : ℕ) → n ≤ m → m < end → value_at keys m ≡ value_at keys n) where
    first-lt : n < c.frame.height
    first-lt = omega (arith, some, within)

    alone : (m : ℕ) → m < c.frame.height → (row_at rows m).key ≡ value_at (row_at rows m).key 0 ∷ []
    alone m lt = sole-key h.sole.dtype (row_at rows m).key (subst (λ (ts : List DataType). AreOfTypes ts (row_at rows m).key) h.sole.is (is-row m lt).key.fit)

    same-key : (m : ℕ) → n ≤ m → m < n + len → (row_at rows m).key ≡ (row_at rows n).key
    same-key m le lt =
        let below : m < c.frame.height = omega (arith, lt, size, within) in
        alone m below
        ∙ ap (λ (v : AnyValue). v ∷ []) (sym (are m (omega (arith, below, rows-long))) ∙ same m le (omega (arith, lt, size)) ∙ are n (omega (arith, first-lt, rows-long)))
        ∙ sym (alone n first-lt)

    place-of : (m : ℕ) → m < length rows → (row_at rows m).place ≡ record { chunk = c.chunk_index; row = m }
    place-of m lt = ap (λ (r : Row). r.place) (row-of m (omega (arith, lt, rows-long)))

    there : n + len ≤ length rows
    there = omega (arith, size, within, rows-long)

    run-typed : AreRows (key_types q) (input_types q) (run_rows (key_types q) rows n len)
    run-typed =
        let part : List Row = take len (drop n rows) in
        let P : Row → Type 0 = λ r. IsRow (key_types q) (input_types q) (spilled (key_types q) r) in
        All-map (IsRow (key_types q) (input_types q)) (spilled (key_types q)) part (All-from_get_or P part no_row (λ k lt.
        let short : k < len = omega (arith, lt, length-take-le len (drop n rows) (omega (arith, there, length-drop n rows))) in
        subst P (sym (run-at rows n len k no_row there short)) (one-typed (n + k) (omega (arith, short, size, within)))))

    pub is-run : IsRun now.shape rows n len
    is-run = subst (λ (s : Shape). IsRun s rows n len) (sym shape-now) (record {
      some = omega (arith, some, size);
      there = there;
      placed = omega (arith, size, within, h.height);
      at = λ m lt. place-of m lt ∙ ap (λ (k : ℕ). record { chunk = k; row = m }) (sym (ap (λ p. p.chunk) (place-of n (omega (arith, first-lt, rows-long)))));
      same = same-key;
      key = (is-row n first-lt).key.fit;
      typed = run-typed;
    })

-- one row is a run
pub one-run : (q : QueryTree) (rows : List Row) (n : ℕ) (types : List DataType) → types ≡ key_types q → n < length rows → spilled types (row_at rows n) ∷ [] ≡ run_rows (key_types q) rows n 1
one-run q rows n types e lt =
    ap (λ (ts : List DataType). spilled ts (row_at rows n) ∷ []) e
    ∙ sym (rw (drop_more rows n no_row lt, unwrap_or-slice_get rows n no_row) refl)

-- the values of a column that holds the keys are the first ones of the keys
pub column-keys : (q : QueryTree) (c : DataChunk) (column : ColumnData) → IsKeyColumn q c column → AreKeysOf (chunk_rows q c.chunk_index c.frame) column.values
column-keys q c column h n lt =
    let rows : List Row = chunk_rows q c.chunk_index c.frame in
    let values : List AnyValue = column.values in
    let within : n < length values = omega (arith, lt, ap (λ (ks : List (List AnyValue)). length ks) h, length-map values (λ (v : AnyValue). v ∷ []), length-map rows (λ (r : Row). r.key)) in
    let key : get_or values n av.Null ∷ [] ≡ (get_or rows n no_row).key =
    sym (get_or-map (λ (v : AnyValue). v ∷ []) values n av.Null [] within) ∙ ap (λ (ks : List (List AnyValue)). get_or ks n []) h ∙ get_or-map (λ (r : Row). r.key) rows n no_row [] lt in
    unwrap_or-slice_get values n av.Null ∙ ap (λ (k : List AnyValue). value_at k 0) key ∙ ap (λ (r : Row). value_at r.key 0) (sym (unwrap_or-slice_get rows n no_row))
