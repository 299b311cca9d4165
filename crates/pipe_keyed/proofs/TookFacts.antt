-- The first rows of a chunk, and a table that takes them and more.
use Rattle.std.proofs.Common.{◌≡◌, ◌∙◌, ℕ, ◌+◌, ◌<◌, ◌≤◌, ◌^◌, List, ◌++◌, length, get_or, refl, sym, ap, subst, arith}
use Rattle.std.specs.List.{All, range_with_len}
use Rattle.std.proofs.lemmas.List.{append_assoc, append-nil, length-append, length-map}
use Rattle.std.proofs.lemmas.List.Elements.{All-append, All-map}
use Rattle.std.proofs.lemmas.List.FromFn.{get_or-range_with_len, length-map-range_with_len, length-range_with_len}
use Rattle.std.proofs.lemmas.Option.{unwrap_or-slice_get}
use Rattle.pipe_columns.specs.Frame.{FrameData}
use Rattle.pipe_columns.specs.Row.{Row}
use Rattle.pipe_model.specs.Output.{key_types}
use Rattle.pipe_model.specs.Query.{QueryTree}
use Rattle.pipe_model.specs.Rows.{chunk_rows, row_of}
use Rattle.pipe_aggs.specs.CheckedQuery.{input_types}
use Rattle.pipe_inputs.specs.ChunkRows.{no_row}
use Rattle.pipe_inputs.specs.RowTypes.{IsRowOf}
use Rattle.pipe_inputs.proofs.CellFacts.{row_at-chunk}
use Rattle.pipe_spill.specs.SpillRow.{AreRows, IsRow, spilled}
use Rattle.pipe_spill.specs.declared.spill_row.SpillRow.{SpillRow}
use Rattle.pipe_spill.proofs.SpilledRows.{spilled_is_row}
use Rattle.pipe_groups.specs.Holds.{HoldFewer, Holds}
use Rattle.pipe_groups.specs.Shape.{Shape, shape_of}
use Rattle.pipe_keyed.specs.Tables.{Table}
use Rattle.pipe_keyed.specs.TakenRows.{rows_to, spilled_first, TookFirstRows}

-- there are so many
pub length-spilled_first : (q : QueryTree) (i : ℕ) (frame : FrameData) (n : ℕ) → length (spilled_first q i frame n) ≡ n
length-spilled_first q i frame n = length-map (rows_to q i frame n) (spilled (key_types q)) ∙ length-map-range_with_len (λ m. row_of q i frame m) 0 n

-- the next rows are taken
pub took-more : (q : QueryTree) (i : ℕ) (frame : FrameData) (n m : ℕ) (old now new : Table) (more : List SpillRow) → TookFirstRows q i frame n old now
    → spilled_first q i frame (n + m) ≡ spilled_first q i frame n ++ more → new.shape ≡ now.shape
    → ((taken : List SpillRow) → Holds now.shape.prototypes now.groups taken → Holds now.shape.prototypes new.groups (taken ++ more))
    → TookFirstRows q i frame (n + m) old new
took-more q i frame n m old now new more took longer shape holds =
    let front : List SpillRow = spilled_first q i frame n in
    let P : Shape → Type 0 = λ s. (taken : List SpillRow) → Holds s.prototypes now.groups taken → Holds s.prototypes new.groups (taken ++ more) in
    let step : P old.shape = subst P took.shape holds in
    record {
      shape = shape ∙ took.shape;
      holds = λ taken h.
          subst (Holds old.shape.prototypes new.groups) (append_assoc taken front more ∙ ap (λ (l : List SpillRow). taken ++ l) (sym longer))
          (step (taken ++ front) (took.holds taken h));
    }

-- none is taken yet
pub took-none : (q : QueryTree) (i : ℕ) (frame : FrameData) (t : Table) → TookFirstRows q i frame 0 t t
took-none q i frame t = record { shape = refl; holds = λ taken h. subst (Holds t.shape.prototypes t.groups) (sym (append-nil taken)) h }

-- ---- each is a row of the query's types

pub row-typed : (q : QueryTree) (i : ℕ) (frame : FrameData) (n : ℕ) (rs : List Row) → rs ≡ chunk_rows q i frame → All (IsRowOf q) rs
    → i < 2 ^ 32 → frame.height < 2 ^ 32 → n < frame.height → IsRow (key_types q) (input_types q) (spilled (key_types q) (row_of q i frame n))
row-typed q i frame n rs e all few small lt =
    let long : n < length (chunk_rows q i frame) = omega (arith, length-map-range_with_len (λ m. row_of q i frame m) 0 frame.height, lt) in
    let at : IsRowOf q (get_or (chunk_rows q i frame) n no_row) = subst (All (IsRowOf q)) e all n no_row long in
    let is : IsRowOf q (row_of q i frame n) =
    subst (IsRowOf q) (sym (unwrap_or-slice_get (chunk_rows q i frame) n no_row) ∙ row_at-chunk q i frame n lt) at in
    spilled_is_row (key_types q) (input_types q) (row_of q i frame n) (record {
      chunk = few;
      row = omega (arith, lt, small);
      key = record { of_types = is.key.fit; utf8 = is.key.utf8 };
      inputs = record { of_types = is.inputs.fit; utf8 = is.inputs.utf8 };
    })

-- and so are the first rows of the chunk
pub rows-typed : (q : QueryTree) (i : ℕ) (frame : FrameData) (n : ℕ) (rs : List Row) → rs ≡ chunk_rows q i frame → All (IsRowOf q) rs
    → i < 2 ^ 32 → frame.height < 2 ^ 32 → n ≤ frame.height → AreRows (key_types q) (input_types q) (spilled_first q i frame n)
rows-typed q i frame n rs e all few small most =
    let P : Row → Type 0 = λ r. IsRow (key_types q) (input_types q) (spilled (key_types q) r) in
    All-map (IsRow (key_types q) (input_types q)) (spilled (key_types q)) (rows_to q i frame n)
    (All-map P (row_of q i frame) (range_with_len 0 n)
    (λ k d l.
    let lt : k < n = omega (arith, l, length-range_with_len 0 n) in
    subst (λ (m : ℕ). P (row_of q i frame m)) (sym (get_or-range_with_len 0 n k d lt ∙ omega arith))
    (row-typed q i frame k rs e all few small (omega (arith, lt, most)))))

-- there is room for the next ones
pub room-for : (q : QueryTree) (i : ℕ) (frame : FrameData) (n m : ℕ) (old now : Table) → TookFirstRows q i frame n old now → old.shape ≡ shape_of q
    → HoldFewer old.shape old.groups frame.height → AreRows (key_types q) (input_types q) (spilled_first q i frame n) → n + m ≤ frame.height
    → HoldFewer now.shape now.groups m
room-for q i frame n m old now took is h typed le =
    let own : AreRows old.shape.key_types old.shape.input_types (spilled_first q i frame n) =
    subst (λ (s : Shape). AreRows s.key_types s.input_types (spilled_first q i frame n)) (sym is) typed in
    subst (λ (s : Shape). HoldFewer s now.groups m) (sym took.shape) (record {
      rows = h.rows ++ spilled_first q i frame n;
      holds = took.holds h.rows h.holds;
      typed = All-append (IsRow old.shape.key_types old.shape.input_types) h.rows (spilled_first q i frame n) h.typed own;
      few = omega (arith, h.few, length-append h.rows (spilled_first q i frame n), length-spilled_first q i frame n, le);
    })
