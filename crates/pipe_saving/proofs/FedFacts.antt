-- Groups that are fed rows, one by one.
use Rattle.std.proofs.Common.{◌≡◌, ◌∙◌, ℕ, suc, ◌+◌, ◌-◌, ◌<◌, ◌≤◌, ◌^◌, Bool, true, false, List, [], ◌∷◌, ◌++◌, length, map, set, All, Option, nat_lt, refl, sym, ap, subst, arith}
use Rattle.std.proofs.lemmas.Bool.{ltb-false, ltb-true}
use Rattle.std.proofs.lemmas.List.{append_assoc, append-nil, length-append, length-map, map-append}
use Rattle.std.proofs.lemmas.List.Elements.{All-append, All-cons, All-nil, All-weaker}
use Rattle.std.proofs.lemmas.List.FromFn.{length-map-range_with_len, map-range_with_len_more}
use Rattle.std.proofs.lemmas.List.Sums.{sum_by-append, sum_by-cons}
use Rattle.std.proofs.lemmas.Option.{unwrap_or-slice_get}
use Rattle.pipe_columns.specs.declared.data_chunk.DataChunk.{DataChunk}
use Rattle.pipe_columns.specs.declared.place.Place.{Place}
use Rattle.pipe_columns.specs.Frame.{FitsSchema, FrameData, HoldsTypes}
use Rattle.pipe_columns.specs.Row.{Row}
use Rattle.pipe_groups.specs.Groups.{Group, is_covered, put}
use Rattle.pipe_groups.specs.Holds.{FoundStands, HoldFewer, Holds, of_key}
use Rattle.pipe_groups.specs.Shape.{Shape, shape_of}
use Rattle.pipe_groups.proofs.PutFacts.{held_at-new}
use Rattle.pipe_inputs.specs.ChunkRows.{no_row, row_at}
use Rattle.pipe_inputs.specs.RowTypes.{IsRowOf}
use Rattle.pipe_inputs.proofs.CellFacts.{row_at-chunk}
use Rattle.pipe_keyed.specs.Keyed.{IsAt}
use Rattle.pipe_keyed.specs.Tables.{HasGroups, IsTable, put_row, Table, TakesOne}
use Rattle.pipe_keyed.specs.TakenRows.{rows_to, spilled_first}
use Rattle.pipe_model.specs.Output.{key_types}
use Rattle.pipe_model.specs.Query.{QueryTree}
use Rattle.pipe_model.specs.Rows.{chunk_rows, row_of, rows_from, total_height}
use Rattle.pipe_saving.specs.declared.extent.Extent.{Extent}
use Rattle.pipe_saving.specs.Extents.{extent_of, extents_of, IsFed}
use Rattle.pipe_saving.specs.Lists.{extent_at, with_place}
use Rattle.pipe_saving.specs.Refusals.{AreFew}
use Rattle.pipe_saving.specs.Taken.{HasTaken, spilled_from}
use Rattle.pipe_saving.proofs.ExtentFacts.{after, extents-at, extents-few, extents-new, is-new, was-there}
use Rattle.pipe_spill.specs.SpillRow.{IsRow, spilled}
use Rattle.pipe_spill.specs.declared.spill_row.SpillRow.{SpillRow}

-- ---- one row

-- an extent with the first row of its group
abbrev first_extent : Place → Extent
first_extent p = record { last = p; rows = 1 }

-- what was done to extents for a place in the group at an index
pub record ArePut (p : Place) (i : ℕ) (old new : List Extent) : Type 0 where
  pub there : i < length old → new ≡ set old i (with_place p (extent_at old i))
  pub behind : length old ≤ i → new ≡ old ++ first_extent p ∷ []

module _ (s : Shape) (taken : List SpillRow) (old new : Table) (extents more : List Extent) (r : SpillRow) (i : ℕ) (h : IsFed s taken old extents) (table : IsTable old)
    (done : HasGroups old new (put_row old r)) (at : IsAt new.groups r.key i) (puts : ArePut r.place i extents more) where
  groups-are : new.groups ≡ after taken r s.prototypes old.groups
  groups-are = done.0 ∙ ap (λ (x : Shape). put x.prototypes r.key r.place r.values old.groups) h.shape

  stands : IsAt (after taken r s.prototypes old.groups) r.key i
  stands = subst (λ (gs : List Group). IsAt gs r.key i) groups-are at

  as-many : length extents ≡ length old.groups
  as-many = ap (λ (es : List Extent). length es) h.extents ∙ length-map old.groups (λ (g : Group). extent_of taken g.key)

  -- of a key that no group has there is no row
  none-of : (gs : List Group) → Holds s.prototypes gs taken → (key : List ℕ) → is_covered key gs ≡ false → of_key key taken ≡ []
  none-of gs holds key e = subst (λ (o : Option Group). FoundStands s.prototypes o (of_key key taken)) (held_at-new key gs e) (holds.at key)

  -- the extents are those of the groups then
  extents-then : more ≡ extents_of (taken ++ r ∷ []) new.groups
  extents-then = by (nat_lt i (length extents)) refl where
    by : (b : Bool) → nat_lt i (length extents) ≡ b → more ≡ extents_of (taken ++ r ∷ []) new.groups
    by true e =
        let lt : i < length extents = ltb-true i (length extents) e in
        let inside : i < length old.groups = omega (arith, lt, as-many) in
        puts.there lt
        ∙ ap (λ (es : List Extent). set es i (with_place r.place (extent_at es i))) h.extents
        ∙ sym (extents-at taken r s.prototypes old.groups i table.apart inside (was-there taken r s.prototypes old.groups i inside stands.1))
        ∙ ap (extents_of (taken ++ r ∷ [])) (sym groups-are)
    by false e =
        let le : length extents ≤ i = ltb-false i (length extents) e in
        let outside : length old.groups ≤ i = omega (arith, le, as-many) in
        let absent = is-new taken r s.prototypes old.groups i outside stands.0 in
        puts.behind le
        ∙ ap (λ (es : List Extent). es ++ first_extent r.place ∷ []) h.extents
        ∙ sym (extents-new taken r s.prototypes old.groups absent (none-of old.groups h.holds r.key absent))
        ∙ ap (extents_of (taken ++ r ∷ [])) (sym groups-are)

  -- so a row more is fed
  pub fed-more : IsRow s.key_types s.input_types r → ((rows : List SpillRow) → Holds old.shape.prototypes old.groups rows → Holds old.shape.prototypes new.groups (rows ++ r ∷ []))
      → IsFed s (taken ++ r ∷ []) new more
  fed-more typed holds = record {
    shape = done.1 ∙ h.shape;
    limit = done.2 ∙ h.limit;
    holds = subst (λ (x : Shape). (rows : List SpillRow) → Holds x.prototypes old.groups rows → Holds x.prototypes new.groups (rows ++ r ∷ [])) h.shape holds taken h.holds;
    typed = All-append (IsRow s.key_types s.input_types) taken (r ∷ []) h.typed (All-cons (IsRow s.key_types s.input_types) r [] typed (All-nil (IsRow s.key_types s.input_types)));
    extents = extents-then;
  }

-- there is room for a row more
pub takes-one : (s : Shape) (taken : List SpillRow) (t : Table) (extents : List Extent) → IsFed s taken t extents → length taken + 1 < 2 ^ 32 → TakesOne t
takes-one s taken t extents h few = subst (λ (x : Shape). HoldFewer x t.groups 1) (sym h.shape) (record { rows = taken; holds = h.holds; typed = h.typed; few = few })

-- and each count can grow
pub counts-grow : (s : Shape) (taken : List SpillRow) (t : Table) (extents : List Extent) → IsFed s taken t extents → length taken + 1 < 2 ^ 32 → All (λ e. e.rows + 1 < 2 ^ 32) extents
counts-grow s taken t extents h few =
    subst (All (λ (e : Extent). e.rows + 1 < 2 ^ 32)) (sym h.extents)
    (All-weaker (λ (e : Extent). e.rows < 2 ^ 32 - 1) (λ (e : Extent). e.rows + 1 < 2 ^ 32) (λ e lt. omega (arith, lt)) (extents_of taken t.groups) (extents-few taken t.groups (2 ^ 32 - 1) (omega (arith, few))))

-- ---- the rows of a chunk

-- rows before a chunk, and its first ones
abbrev pub rows_so_far : QueryTree → List SpillRow → ℕ → FrameData → ℕ → List SpillRow
rows_so_far q before i frame n = before ++ spilled_first q i frame n

-- none yet
pub so-far-none : (q : QueryTree) (before : List SpillRow) (i : ℕ) (frame : FrameData) → rows_so_far q before i frame 0 ≡ before
so-far-none q before i frame = append-nil before

-- one row more
pub so-far-more : (q : QueryTree) (before : List SpillRow) (i : ℕ) (frame : FrameData) (n : ℕ) → rows_so_far q before i frame (n + 1) ≡ rows_so_far q before i frame n ++ spilled (key_types q) (row_of q i frame n) ∷ []
so-far-more q before i frame n =
    ap (λ (l : List SpillRow). before ++ l)
    (ap (map (spilled (key_types q))) (map-range_with_len_more (λ m. row_of q i frame m) 0 n n (omega arith))
    ∙ map-append (spilled (key_types q)) (rows_to q i frame n) (row_of q i frame n ∷ []))
    ∙ sym (append_assoc before (spilled_first q i frame n) (spilled (key_types q) (row_of q i frame n) ∷ []))

-- so many
pub so-far-length : (q : QueryTree) (before : List SpillRow) (i : ℕ) (frame : FrameData) (n : ℕ) → length (rows_so_far q before i frame n) ≡ length before + n
so-far-length q before i frame n =
    length-append before (spilled_first q i frame n)
    ∙ ap (λ (m : ℕ). length before + m) (length-map (rows_to q i frame n) (spilled (key_types q)) ∙ length-map-range_with_len (λ m. row_of q i frame m) 0 n)

-- the rows of a chunk are as many as it is high
pub rows-count : (q : QueryTree) (i : ℕ) (frame : FrameData) (rs : List Row) → rs ≡ chunk_rows q i frame → length rs ≡ frame.height
rows-count q i frame rs e = ap (λ (l : List Row). length l) e ∙ length-map-range_with_len (λ n. row_of q i frame n) 0 frame.height

-- and each is one
pub row-is : (q : QueryTree) (i : ℕ) (frame : FrameData) (n : ℕ) (rs : List Row) → rs ≡ chunk_rows q i frame → n < frame.height → row_at rs n ≡ row_of q i frame n
row-is q i frame n rs e lt = ap (λ (l : List Row). row_at l n) e ∙ row_at-chunk q i frame n lt

-- of the types of the query
pub row-of : (q : QueryTree) (rs : List Row) (n : ℕ) → All (IsRowOf q) rs → n < length rs → IsRowOf q (row_at rs n)
row-of q rs n all lt = subst (IsRowOf q) (sym (unwrap_or-slice_get rs n no_row)) (all n no_row lt)

-- ---- chunks

rows_from-push : (q : QueryTree) (i : ℕ) (cs : List DataChunk) (c : DataChunk) → rows_from q i (cs ++ c ∷ []) ≡ rows_from q i cs ++ chunk_rows q (i + length cs) c.frame
rows_from-push q i [] c = append-nil (chunk_rows q i c.frame) ∙ ap (λ (k : ℕ). chunk_rows q k c.frame) (omega arith)
rows_from-push q i (x ∷ xs) c =
    let rest : rows_from q (i + 1) (xs ++ c ∷ []) ≡ rows_from q (i + 1) xs ++ chunk_rows q (i + suc (length xs)) c.frame =
    rows_from-push q (i + 1) xs c ∙ ap (λ (k : ℕ). rows_from q (i + 1) xs ++ chunk_rows q k c.frame) (omega arith) in
    ap (λ (t : List Row). chunk_rows q i x.frame ++ t) rest ∙ sym (append_assoc (chunk_rows q i x.frame) (rows_from q (i + 1) xs) (chunk_rows q (i + suc (length xs)) c.frame))

-- each row of each chunk is one
pub rows_from-length : (q : QueryTree) (i : ℕ) (cs : List DataChunk) → length (rows_from q i cs) ≡ total_height cs
rows_from-length q i [] = refl
rows_from-length q i (c ∷ cs) = length-append (chunk_rows q i c.frame) (rows_from q (i + 1) cs)
    ∙ omega (arith, length-map-range_with_len (λ n. row_of q i c.frame n) 0 c.frame.height, rows_from-length q (i + 1) cs, sum_by-cons (λ (x : DataChunk). x.frame.height) c cs)

pub spilled-length : (q : QueryTree) (first : ℕ) (taken : List DataChunk) → length (spilled_from q first taken) ≡ total_height taken
spilled-length q first taken = length-map (rows_from q first taken) (spilled (key_types q)) ∙ rows_from-length q first taken

-- all rows of a chunk behind those of others are those of all
pub so-far-all : (q : QueryTree) (first : ℕ) (taken : List DataChunk) (c : DataChunk) → rows_so_far q (spilled_from q first taken) (first + length taken) c.frame c.frame.height ≡ spilled_from q first (taken ++ c ∷ [])
so-far-all q first taken c =
    sym (map-append (spilled (key_types q)) (rows_from q first taken) (chunk_rows q (first + length taken) c.frame))
    ∙ ap (map (spilled (key_types q))) (sym (rows_from-push q first taken c))

-- there is room for the rows of a chunk more
pub few-more : (first : ℕ) (taken : List DataChunk) (c : DataChunk) → AreFew first (taken ++ c ∷ []) → (total_height taken + c.frame.height < 2 ^ 32) × (first + length taken + 1 < 2 ^ 32)
few-more first taken c h =
    let height = sum_by-append (λ (x : DataChunk). x.frame.height) taken (c ∷ []) in
    let one = sum_by-cons (λ (x : DataChunk). x.frame.height) c [] in
    let number = length-append taken (c ∷ []) in
    (omega (arith, h.rows, height, one), omega (arith, h.positions, number))

-- and where there is, they are few
pub few-with : (first : ℕ) (taken : List DataChunk) (c : DataChunk) → total_height taken + c.frame.height < 2 ^ 32 → first + length taken + 1 < 2 ^ 32 → AreFew first (taken ++ c ∷ [])
few-with first taken c rows number =
    let height = sum_by-append (λ (x : DataChunk). x.frame.height) taken (c ∷ []) in
    let one = sum_by-cons (λ (x : DataChunk). x.frame.height) c [] in
    let count = length-append taken (c ∷ []) in
    record { rows = omega (arith, rows, height, one); positions = omega (arith, number, count) }

-- a chunk more was taken
pub taken-more : (q : QueryTree) (first : ℕ) (taken : List DataChunk) (c : DataChunk) (old t : Table) (before extents : List Extent) → HasTaken q first taken old before
    → FitsSchema q.schema c.frame → HoldsTypes c.frame → AreFew first (taken ++ c ∷ [])
    → IsFed (shape_of q) (rows_so_far q (spilled_from q first taken) (first + length taken) c.frame c.frame.height) t extents
    → HasTaken q first (taken ++ c ∷ []) t extents
taken-more q first taken c old t before extents h fits types few fed =
    let S : DataChunk → Type 0 = λ x. FitsSchema q.schema x.frame in
    let H : DataChunk → Type 0 = λ x. HoldsTypes x.frame in
    record {
      fit = All-append S taken (c ∷ []) h.fit (All-cons S c [] fits (All-nil S));
      typed = All-append H taken (c ∷ []) h.typed (All-cons H c [] types (All-nil H));
      few = few;
      fed = subst (λ (rows : List SpillRow). IsFed (shape_of q) rows t extents) (so-far-all q first taken c) fed;
    }

-- none was taken yet
pub taken-none : (q : QueryTree) (first : ℕ) (t : Table) (extents : List Extent) → first < 2 ^ 32 → IsFed (shape_of q) [] t extents → HasTaken q first [] t extents
taken-none q first t extents lt fed = record {
  fit = All-nil (λ (x : DataChunk). FitsSchema q.schema x.frame);
  typed = All-nil (λ (x : DataChunk). HoldsTypes x.frame);
  few = record { rows = omega arith; positions = omega (arith, lt) };
  fed = fed;
}

-- ---- the next row of a chunk

-- there is room for it
pub few-next : (q : QueryTree) (first : ℕ) (taken : List DataChunk) (c : DataChunk) (i n : ℕ) (t : Table) (extents : List Extent) → AreFew first (taken ++ c ∷ []) → n < c.frame.height
    → IsFed (shape_of q) (rows_so_far q (spilled_from q first taken) i c.frame n) t extents → TakesOne t × All (λ e. e.rows + 1 < 2 ^ 32) extents
few-next q first taken c i n t extents few lt fed =
    let before : List SpillRow = spilled_from q first taken in
    let low : length (rows_so_far q before i c.frame n) + 1 < 2 ^ 32 =
    omega (arith, lt, so-far-length q before i c.frame n, spilled-length q first taken, (few-more first taken c few).0) in
    (takes-one (shape_of q) (rows_so_far q before i c.frame n) t extents fed low, counts-grow (shape_of q) (rows_so_far q before i c.frame n) t extents fed low)

-- and then it is fed
pub fed-next : (q : QueryTree) (before : List SpillRow) (i : ℕ) (frame : FrameData) (n : ℕ) (rs : List Row) (t new : Table) (extents more : List Extent) → rs ≡ chunk_rows q i frame → n < frame.height
    → ((s : Shape) (taken : List SpillRow) → IsFed s taken t extents → IsFed s (taken ++ spilled s.key_types (row_at rs n) ∷ []) new more)
    → IsFed (shape_of q) (rows_so_far q before i frame n) t extents → IsFed (shape_of q) (rows_so_far q before i frame (n + 1)) new more
fed-next q before i frame n rs t new extents more e lt step fed =
    subst (λ (rows : List SpillRow). IsFed (shape_of q) rows new more)
    (ap (λ (r : Row). rows_so_far q before i frame n ++ spilled (key_types q) r ∷ []) (row-is q i frame n rs e lt) ∙ sym (so-far-more q before i frame n))
    (step (shape_of q) (rows_so_far q before i frame n) fed)
