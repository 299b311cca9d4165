-- The rows of a chunk that a table takes one by one.
use Rattle.std.proofs.Common.{◌≡◌, ◌∙◌, ℕ, ◌+◌, ◌<◌, ◌≤◌, ◌^◌, List, [], ◌∷◌, ◌++◌, length, map, take, drop, sym, ap, subst, arith}
use Rattle.std.proofs.lemmas.List.{append-nil, length-take-le, map-append, take-append-drop}
use Rattle.std.proofs.Math.Seq.{take-append-add}
use Rattle.std.proofs.lemmas.List.Elements.{All-nil}
use Rattle.std.proofs.lemmas.List.FromFn.{length-map-range_with_len, take-map-range_with_len}
use Rattle.pipe_columns.specs.declared.data_chunk.DataChunk.{DataChunk}
use Rattle.pipe_columns.specs.Frame.{FrameData}
use Rattle.pipe_columns.specs.Row.{Row}
use Rattle.pipe_model.specs.Output.{key_types}
use Rattle.pipe_model.specs.Query.{QueryTree}
use Rattle.pipe_model.specs.Rows.{chunk_rows, row_of}
use Rattle.pipe_aggs.specs.CheckedQuery.{input_types}
use Rattle.pipe_spill.specs.SpillRow.{AreRows, IsRow, spilled}
use Rattle.pipe_spill.specs.declared.spill_row.SpillRow.{SpillRow}
use Rattle.pipe_groups.specs.Holds.{HoldFewer, Holds}
use Rattle.pipe_groups.specs.Shape.{Shape, shape_of}
use Rattle.pipe_groups.proofs.HoldFacts.{holds-none}
use Rattle.pipe_keyed.specs.TakenRows.{rows_to, spilled_first, TookFirstRows}
use Rattle.pipe_keyed.proofs.TookFacts.{took-more}
use Rattle.pipe_sinks.specs.KeyRuns.{run_rows}
use Rattle.pipe_sinks.specs.RunLayout.{HoldsChunks}
use Rattle.pipe_keyed.specs.Tables.{Table}

-- the first items of a list, and those behind them
take-both : {X : Type 0} (n m : ℕ) (xs : List X) → n ≤ length xs → take (n + m) xs ≡ take n xs ++ take m (drop n xs)
take-both n m xs le =
    ap (take (n + m)) (sym (take-append-drop n xs)) ∙ ap (λ (k : ℕ). take (k + m) (take n xs ++ drop n xs)) (sym (length-take-le n xs le)) ∙ take-append-add (take n xs) (drop n xs) m

-- the first rows of the chunk
rows_to-is : (q : QueryTree) (i : ℕ) (frame : FrameData) (n : ℕ) → n ≤ frame.height → take n (chunk_rows q i frame) ≡ rows_to q i frame n
rows_to-is q i frame n le = take-map-range_with_len (λ m. row_of q i frame m) 0 frame.height n le

-- so many rows more
pub spilled_more : (q : QueryTree) (i : ℕ) (frame : FrameData) (n m : ℕ) (rows : List Row) → rows ≡ chunk_rows q i frame → n + m ≤ frame.height
    → spilled_first q i frame (n + m) ≡ spilled_first q i frame n ++ run_rows (key_types q) rows n m
spilled_more q i frame n m rows is le =
    let all : List Row = chunk_rows q i frame in
    let long : n ≤ length all = omega (arith, le, length-map-range_with_len (λ k. row_of q i frame k) 0 frame.height) in
    ap (map (spilled (key_types q))) (sym (rows_to-is q i frame (n + m) le) ∙ take-both n m all long ∙ ap (λ (rs : List Row). rs ++ take m (drop n all)) (rows_to-is q i frame n (omega (arith, le))))
    ∙ map-append (spilled (key_types q)) (rows_to q i frame n) (take m (drop n all))
    ∙ ap (λ (rs : List Row). spilled_first q i frame n ++ run_rows (key_types q) rs n m) (sym is)

-- they are taken next
pub took-run : (q : QueryTree) (i : ℕ) (frame : FrameData) (n m : ℕ) (old now new : Table) (rows : List Row) (more : List SpillRow) → TookFirstRows q i frame n old now → rows ≡ chunk_rows q i frame → n + m ≤ frame.height
    → more ≡ run_rows (key_types q) rows n m → new.shape ≡ now.shape
    → ((taken : List SpillRow) → Holds now.shape.prototypes now.groups taken → Holds now.shape.prototypes new.groups (taken ++ more))
    → TookFirstRows q i frame (n + m) old new
took-run q i frame n m old now new rows more took is le are shape holds =
    took-more q i frame n m old now new more took (spilled_more q i frame n m rows is le ∙ ap (λ (l : List SpillRow). spilled_first q i frame n ++ l) (sym are)) shape holds

-- a table of no groups has room for as many rows as have places
pub room-none : (s : Shape) (t : Table) (more : ℕ) → t.groups ≡ [] → more < 2 ^ 32 → HoldFewer s t.groups more
room-none s t more e lt = rw e (record { rows = []; holds = holds-none s.prototypes; typed = All-nil (IsRow s.key_types s.input_types); few = omega (arith, lt) })

-- a table that had none, and took all rows of a chunk, holds them
pub took-chunk : (q : QueryTree) (c : DataChunk) (i n : ℕ) (old now : Table) → i ≡ c.chunk_index → n ≡ c.frame.height → old.groups ≡ [] → old.shape ≡ shape_of q
    → TookFirstRows q i c.frame n old now → AreRows (key_types q) (input_types q) (spilled_first q i c.frame n) → HoldsChunks q (c ∷ []) now
took-chunk q c i n old now at height none shape took typed =
    let own : List SpillRow = spilled_first q i c.frame n in
    let all : own ≡ map (spilled (key_types q)) (chunk_rows q c.chunk_index c.frame ++ []) =
    (λ j. spilled_first q (at j) c.frame (height j)) ∙ ap (map (spilled (key_types q))) (sym (append-nil (chunk_rows q c.chunk_index c.frame))) in
    let held : Holds old.shape.prototypes now.groups own = took.holds [] (rw none (holds-none old.shape.prototypes)) in
    let is : now.shape ≡ shape_of q = took.shape ∙ shape in
    record {
      shape = is;
      holds = subst (λ (s : Shape). Holds s.prototypes now.groups (map (spilled (key_types q)) (chunk_rows q c.chunk_index c.frame ++ []))) (sym took.shape) (subst (Holds old.shape.prototypes now.groups) all held);
      typed = subst (λ (s : Shape). AreRows s.key_types s.input_types (map (spilled (key_types q)) (chunk_rows q c.chunk_index c.frame ++ []))) (sym is) (subst (AreRows (key_types q) (input_types q)) all typed);
    }
