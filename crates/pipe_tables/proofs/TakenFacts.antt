-- The rows of a chunk that are taken one by one, and of chunks.
use Rattle.std.proofs.Common.{Option, Some, true, false, ◌≡◌, ◌∙◌, ℕ, ◌+◌, ◌<◌, ◌^◌, suc, List, [], ◌∷◌, ◌++◌, length, map, refl, sym, ap, subst, arith}
use Rattle.std.proofs.lemmas.List.{append_assoc, append-nil, length-append, length-map, map-append}
use Rattle.std.proofs.lemmas.List.Elements.{All-append, All-cons, All-nil}
use Rattle.std.proofs.lemmas.List.FromFn.{length-map-range_with_len, map-range_with_len_more}
use Rattle.std.proofs.lemmas.List.Sums.{sum_by-cons, sum_by_push}
use Rattle.pipe_columns.specs.declared.data_chunk.DataChunk.{DataChunk}
use Rattle.pipe_columns.specs.declared.place.Place.{Place}
use Rattle.pipe_columns.specs.Frame.{fields_of, FitsSchema, frame_of, FrameData, HoldsTypes}
use Rattle.pipe_columns.specs.Slice.{sliced}
use Rattle.pipe_columns.specs.Row.{Row}
use Rattle.pipe_model.specs.Output.{key_types}
use Rattle.pipe_model.specs.Query.{QueryTree}
use Rattle.pipe_model.specs.Answer.{answer}
use Rattle.pipe_model.specs.Groupable.{IsGroupable}
use Rattle.pipe_model.proofs.RowPlaces.{rows-distinct}
use Rattle.pipe_model.specs.Rows.{AreChunksOf, chunk_rows, row_of, rows, rows_from, total_height}
use Rattle.pipe_aggs.specs.CheckedQuery.{IsSound}
use Rattle.pipe_aggs.specs.QueryTrees.{query_tree}
use Rattle.pipe_aggs.specs.declared.query.Query.{Query}
use Rattle.pipe_inputs.proofs.TypeFacts as TypeFacts
use Rattle.pipe_spill.specs.SpillRow.{AreRows, IsRow, spilled}
use Rattle.pipe_spill.specs.declared.spill_row.SpillRow.{SpillRow}
use Rattle.pipe_groups.specs.Given.{in_order, IsFrameOfGroups}
use Rattle.pipe_groups.specs.Placed.{rows_by_place}
use Rattle.pipe_groups.specs.QueryRows.{ArePlaced, HoldRowsOf}
use Rattle.pipe_groups.proofs.AnswerFacts.{held-whole}
use Rattle.pipe_groups.proofs.ByPlaceFacts.{held-by_place}
use Rattle.pipe_groups.specs.Holds.{HoldFewer, Holds}
use Rattle.pipe_groups.specs.Shape.{Shape, shape_of}
use Rattle.pipe_keyed.specs.Tables.{IsTable, Table}
use Rattle.pipe_keyed.specs.TakenRows.{rows_to, spilled_first, TookFirstRows}
use Rattle.pipe_keyed.proofs.TookFacts.{took-more}
use Rattle.pipe_tables.specs.Taken.{TableHasTaken, spilled_rows}

-- one row more
spilled_more : (q : QueryTree) (i : ℕ) (frame : FrameData) (n : ℕ) → spilled_first q i frame (n + 1) ≡ spilled_first q i frame n ++ spilled (key_types q) (row_of q i frame n) ∷ []
spilled_more q i frame n =
    ap (map (spilled (key_types q))) (map-range_with_len_more (λ m. row_of q i frame m) 0 n n (omega arith))
    ∙ map-append (spilled (key_types q)) (rows_to q i frame n) (row_of q i frame n ∷ [])

-- the next row is taken
pub took-row : (q : QueryTree) (i : ℕ) (frame : FrameData) (n : ℕ) (old now new : Table) (r : SpillRow) → TookFirstRows q i frame n old now
    → r ≡ spilled (key_types q) (row_of q i frame n) → new.shape ≡ now.shape
    → ((rows : List SpillRow) → Holds now.shape.prototypes now.groups rows → Holds now.shape.prototypes new.groups (rows ++ r ∷ []))
    → TookFirstRows q i frame (n + 1) old new
took-row q i frame n old now new r took is shape more =
    took-more q i frame n 1 old now new (r ∷ []) took (spilled_more q i frame n ∙ ap (λ (x : SpillRow). spilled_first q i frame n ++ x ∷ []) (sym is)) shape more

-- ---- chunks

rows_from-push : (q : QueryTree) (i : ℕ) (cs : List DataChunk) (c : DataChunk) → rows_from q i (cs ++ (c ∷ [])) ≡ rows_from q i cs ++ chunk_rows q (i + length cs) c.frame
rows_from-push q i [] c = append-nil (chunk_rows q i c.frame) ∙ ap (λ (k : ℕ). chunk_rows q k c.frame) (omega arith)
rows_from-push q i (x ∷ xs) c =
    let rest : rows_from q (i + 1) (xs ++ (c ∷ [])) ≡ rows_from q (i + 1) xs ++ chunk_rows q (i + suc (length xs)) c.frame =
    rows_from-push q (i + 1) xs c ∙ ap (λ (k : ℕ). rows_from q (i + 1) xs ++ chunk_rows q k c.frame) (omega arith) in
    ap (λ (t : List Row). chunk_rows q i x.frame ++ t) rest ∙ sym (append_assoc (chunk_rows q i x.frame) (rows_from q (i + 1) xs) (chunk_rows q (i + suc (length xs)) c.frame))

-- the rows of chunks with one more
pub rows-push : (q : QueryTree) (taken : List DataChunk) (c : DataChunk) → spilled_rows q (taken ++ (c ∷ [])) ≡ spilled_rows q taken ++ map (spilled (key_types q)) (chunk_rows q (length taken) c.frame)
rows-push q taken c =
    let longer : rows (taken ++ (c ∷ [])) q ≡ rows taken q ++ chunk_rows q (length taken) c.frame =
    rows_from-push q 0 taken c ∙ ap (λ (k : ℕ). rows taken q ++ chunk_rows q k c.frame) (omega arith) in
    ap (map (spilled (key_types q))) longer ∙ map-append (spilled (key_types q)) (rows taken q) (chunk_rows q (length taken) c.frame)

-- each row of each chunk is one
length-rows_from : (q : QueryTree) (i : ℕ) (cs : List DataChunk) → length (rows_from q i cs) ≡ total_height cs
length-rows_from q i [] = refl
length-rows_from q i (c ∷ cs) = length-append (chunk_rows q i c.frame) (rows_from q (i + 1) cs)
    ∙ omega (arith, length-map-range_with_len (λ n. row_of q i c.frame n) 0 c.frame.height, length-rows_from q (i + 1) cs, sum_by-cons (λ (x : DataChunk). x.frame.height) c cs)

pub length-rows : (q : QueryTree) (taken : List DataChunk) → length (spilled_rows q taken) ≡ total_height taken
length-rows q taken = length-map (rows taken q) (spilled (key_types q)) ∙ length-rows_from q 0 taken

-- chunks that a query may be asked of, with one more
chunks-more : (q : QueryTree) (taken : List DataChunk) (c : DataChunk) → AreChunksOf q taken → FitsSchema q.schema c.frame → HoldsTypes c.frame
    → total_height taken + c.frame.height < 2 ^ 32 → length taken + 1 < 2 ^ 32 → AreChunksOf q (taken ++ (c ∷ []))
chunks-more q taken c are fits typed few number =
    let S : DataChunk → Type 0 = λ x. FitsSchema q.schema x.frame in
    let H : DataChunk → Type 0 = λ x. HoldsTypes x.frame in
    record {
      columns = All-append S taken (c ∷ []) are.columns (All-cons S c [] fits (All-nil S));
      typed = All-append H taken (c ∷ []) are.typed (All-cons H c [] typed (All-nil H));
      rows = omega (arith, few, sum_by_push (λ (x : DataChunk). x.frame.height) taken c);
      number = omega (arith, number, length-append taken (c ∷ []));
    }

-- there is room for the rows of one more
pub room-for-chunk : (q : QueryTree) (taken : List DataChunk) (height : ℕ) (t : Table) → TableHasTaken q taken t → total_height taken + height < 2 ^ 32
    → HoldFewer t.shape t.groups height
room-for-chunk q taken height t h few = record {
  rows = spilled_rows q taken;
  holds = h.holds;
  typed = h.typed;
  few = omega (arith, few, length-rows q taken);
}

-- a table that took the rows of one more chunk has taken it
pub taken-more : (q : QueryTree) (taken : List DataChunk) (c : DataChunk) (i : ℕ) (old new : Table) → TableHasTaken q taken old → i ≡ length taken
    → FitsSchema q.schema c.frame → HoldsTypes c.frame → total_height taken + c.frame.height < 2 ^ 32 → length taken + 1 < 2 ^ 32
    → new.shape ≡ old.shape → new.limit ≡ old.limit
    → ((rows : List SpillRow) → Holds old.shape.prototypes old.groups rows → Holds old.shape.prototypes new.groups (rows ++ map (spilled (key_types q)) (chunk_rows q i c.frame)))
    → AreRows old.shape.key_types old.shape.input_types (map (spilled (key_types q)) (chunk_rows q i c.frame))
    → TableHasTaken q (taken ++ (c ∷ [])) new
taken-more q taken c i old new h at fits types few number shape limit holds typed =
    let own : List SpillRow = map (spilled (key_types q)) (chunk_rows q i c.frame) in
    let all : spilled_rows q taken ++ own ≡ spilled_rows q (taken ++ (c ∷ [])) =
    ap (λ (k : ℕ). spilled_rows q taken ++ map (spilled (key_types q)) (chunk_rows q k c.frame)) at ∙ sym (rows-push q taken c) in
    let H : Shape → List SpillRow → Type 0 = λ s rows. Holds s.prototypes new.groups rows in
    let R : Shape → List SpillRow → Type 0 = λ s rows. AreRows s.key_types s.input_types rows in
    record {
      chunks = chunks-more q taken c h.chunks fits types few number;
      shape = shape ∙ h.shape;
      limit = limit ∙ h.limit;
      holds = subst (λ (s : Shape). H s (spilled_rows q (taken ++ (c ∷ [])))) (sym shape) (subst (H old.shape) all (holds (spilled_rows q taken) h.holds));
      typed = subst (λ (s : Shape). R s (spilled_rows q (taken ++ (c ∷ [])))) (sym shape)
          (subst (R old.shape) all (All-append (IsRow old.shape.key_types old.shape.input_types) (spilled_rows q taken) own h.typed typed));
    }

-- ---- what is given

-- a table that has taken chunks holds their rows, with the types of the query
pub taken-holds : (x : Query) (taken : List DataChunk) (t : Table) → IsSound x → IsGroupable (query_tree x) → TableHasTaken (query_tree x) taken t → IsTable t
    → HoldRowsOf (query_tree x) t.groups (rows taken (query_tree x))
taken-holds x taken t sound groupable h is = record {
  groupable = groupable;
  typed = TypeFacts.rows-typed x 0 taken sound h.chunks.columns h.chunks.typed;
  apart = is.apart;
  holds = subst (λ (s : Shape). Holds s.prototypes t.groups (spilled_rows (query_tree x) taken)) h.shape h.holds;
}

-- where no order is kept, its frame under the slice is the answer
pub taken-by_key : (q : QueryTree) (taken : List DataChunk) (t : Table) (slice : Option (ℕ × ℕ)) (f : FrameData) → HoldRowsOf q t.groups (rows taken q)
    → t.shape ≡ shape_of q → slice ≡ q.slice → q.keeps_order ≡ false → IsFrameOfGroups t.shape (sliced slice (in_order t.groups)) f → f ≡ answer taken q 1
taken-by_key q taken t slice f h shape is unordered frame =
    let own : IsFrameOfGroups (shape_of q) (sliced q.slice (in_order t.groups)) f =
    subst (λ (s : Shape). IsFrameOfGroups s (sliced q.slice (in_order t.groups)) f) shape
    (subst (λ (s : Option (ℕ × ℕ)). IsFrameOfGroups t.shape (sliced s (in_order t.groups)) f) is frame) in
    held-whole q (rows taken q) t.groups f h (rows-distinct taken q) unordered own

-- its placed groups
pub taken-placed : (q : QueryTree) (t : Table) (frame : FrameData) (firsts : List Place) → t.shape ≡ shape_of q → IsFrameOfGroups t.shape (in_order t.groups) frame
    → map Some firsts ≡ map (λ g. g.first) (in_order t.groups) → ArePlaced (shape_of q) t.groups frame firsts
taken-placed q t frame firsts shape is places = record {
  frame_is = subst (λ (s : Shape). IsFrameOfGroups s (in_order t.groups) frame) shape is;
  firsts_are = places;
}

-- in the order of their places they give the answer where order is kept
pub taken-by_place : (q : QueryTree) (taken : List DataChunk) (t : Table) (frame : FrameData) (firsts : List Place) (slice : Option (ℕ × ℕ)) → HoldRowsOf q t.groups (rows taken q)
    → ArePlaced (shape_of q) t.groups frame firsts → slice ≡ q.slice → q.keeps_order ≡ true
    → (f : FrameData) → f ≡ frame_of (fields_of frame.columns) (sliced slice (rows_by_place firsts frame)) → f ≡ answer taken q 1
taken-by_place q taken t frame firsts slice h placed is ordered f e =
    held-by_place q (rows taken q) t.groups frame firsts h (rows-distinct taken q) placed ordered f
    (e ∙ ap (λ (s : Option (ℕ × ℕ)). frame_of (fields_of frame.columns) (sliced s (rows_by_place firsts frame))) is)
