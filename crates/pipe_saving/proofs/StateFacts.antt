-- What a table of groups gives with their extents are the state rows of its rows.
use Rattle.std.proofs.Common.{◌≡◌, ◌∙◌, ℕ, suc, ◌+◌, ◌<◌, ◌≤◌, ◌^◌, List, [], ◌∷◌, length, map, take, drop, get_or, All, Option, Some, None, option_map, refl, sym, ap, subst, arith}
use Rattle.std.specs.List.{flat_map, range_with_len}
use Rattle.std.proofs.lemmas.List.{drop_at, drop-map, get_or-map, length-append, length-map, take_at, take-map}
use Rattle.std.proofs.lemmas.List.Elements.{All-append, All-head, All-map, All-nil, All-tail, All-weaker}
use Rattle.std.proofs.lemmas.List.FromFn.{get_or-range_with_len, length-range_with_len}
use Rattle.std.proofs.lemmas.List.Sums.{sum_by-cons}
use Rattle.std.proofs.lemmas.Simd.{map-map}
use Rattle.pipe_columns.specs.declared.any_value.AnyValue.{AnyValue}
use Rattle.pipe_columns.specs.declared.data_chunk.DataChunk.{DataChunk}
use Rattle.pipe_columns.specs.declared.data_type.DataType.{DataType}
use Rattle.pipe_columns.specs.declared.place.Place.{Place}
use Rattle.pipe_columns.specs.declared.schema.Field.{Field}
use Rattle.pipe_columns.specs.Frame.{ColumnData, columns_from, field_of, FrameData, HoldsTypes, row_at, value_at}
use Rattle.pipe_columns.specs.Key.{code}
use Rattle.pipe_columns.specs.Place.{first_entry, last_entry}
use Rattle.pipe_columns.specs.Row.{Row}
use Rattle.pipe_columns.proofs.AscendingFacts.{sorted-holds}
use Rattle.pipe_aggs.specs.CheckedQuery.{input_types, IsSound}
use Rattle.pipe_aggs.specs.QueryTrees.{query_tree}
use Rattle.pipe_aggs.specs.declared.query.Query.{Query}
use Rattle.pipe_inputs.specs.RowTypes.{IsRowOf}
use Rattle.pipe_inputs.proofs.TypeFacts as TypeFacts
use Rattle.pipe_model.specs.Answer.{aggs_from, answer_row, rows_at, tuple_cmp}
use Rattle.pipe_model.specs.Expr.{Expr, name_of}
use Rattle.pipe_model.specs.Groupable.{IsGroupable}
use Rattle.pipe_model.specs.Output.{agg_fields, input_type, key_types, output_schema}
use Rattle.pipe_model.specs.Query.{QueryTree}
use Rattle.pipe_model.specs.Rows.{chunk_rows, HaveDistinctPlaces, keys_of, row_of, rows_from, total_height}
use Rattle.pipe_model.specs.Typing.{known_type}
use Rattle.pipe_spill.specs.KeyTypes.{AreOfTypes}
use Rattle.pipe_spill.specs.SpillRow.{HasValues, spilled}
use Rattle.pipe_spill.specs.declared.spill_row.SpillRow.{SpillRow}
use Rattle.pipe_spill.proofs.Tuples.{as_long}
use Rattle.pipe_groups.specs.Given.{in_order, IsFrameOfGroups}
use Rattle.pipe_groups.specs.Groups.{Group, group_of, no_group}
use Rattle.pipe_groups.specs.Holds.{entries_of, of_key}
use Rattle.pipe_groups.specs.QueryRows.{ArePlaced, ArePlacedRows, HoldRowsOf}
use Rattle.pipe_groups.specs.Shape.{IsShape, Shape, shape_of}
use Rattle.pipe_groups.proofs.ByPlaceAnswer.{keys-coded}
use Rattle.pipe_groups.proofs.ByPlaceFacts.{held-placed}
use Rattle.pipe_groups.proofs.CodedFacts.{spilled-at}
use Rattle.pipe_groups.proofs.FrameRows.{answer_row-length, frame-fields, row-frame}
use Rattle.pipe_keyed.specs.Tables.{IsTable, Table}
use Rattle.pipe_saving.specs.declared.extent.Extent.{Extent}
use Rattle.pipe_saving.specs.Extents.{extent_of, extents_of}
use Rattle.pipe_saving.specs.Lists.{extent_at, no_extent, no_place, row_in, values_in}
use Rattle.pipe_saving.specs.Refusals.{AllFit, AreFew}
use Rattle.pipe_saving.specs.Taken.{HasTaken}
use Rattle.pipe_saving.proofs.FedFacts.{rows_from-length}
use Rattle.pipe_states.specs.Fair.{CanSave, IsStateOf}
use Rattle.pipe_states.specs.Parts.{part_of, saved}
use Rattle.pipe_states.specs.States.{place_of, state_row, state_rows, tuples_of}
use Rattle.pipe_states.proofs.GivenSaved.{saved-of}
use Rattle.pipe_states.proofs.PartFacts.{part-in_range}

-- ---- lists

-- images of numbers are those of elements, where each number has its element's
range-map : {X Y : Type 0} (f : ℕ → Y) (g : X → Y) (xs : List X) (d : X) (a : ℕ) → ((n : ℕ) → n < length xs → f (a + n) ≡ g (get_or xs n d)) → map f (range_with_len a (length xs)) ≡ map g xs
range-map f g [] d a h = refl
range-map f g (x ∷ xs) d a h =
    let here : f a ≡ g x = ap f (omega arith) ∙ h 0 (omega arith) in
    let rest = range-map f g xs d (a + 1) (λ n lt. ap f (omega arith) ∙ h (suc n) (omega (arith, lt))) in
    λ i. here i ∷ rest i

-- the place of an entry, where there is one
place-some : {V : Type 0} (o : Option (Place × V)) (p : Place) → Some p ≡ option_map (λ e. e.0) o → p ≡ place_of o
place-some None p e = cc
place-some (Some f) p e = cc

-- ---- extents in the order of keys

-- extents at the indices of groups are those of the groups
extents-turned : (rows : List SpillRow) (gs : List Group) (order : List ℕ) → All (λ i. i < length gs) order → map (extent_at (extents_of rows gs)) order ≡ extents_of rows (map (group_of gs) order)
extents-turned rows gs [] h = refl
extents-turned rows gs (i ∷ order) h =
    let here = get_or-map (λ (g : Group). extent_of rows g.key) gs i no_group no_extent (All-head (λ (j : ℕ). j < length gs) i order h) in
    let rest = extents-turned rows gs order (All-tail (λ (j : ℕ). j < length gs) i order h) in
    λ j. here j ∷ rest j

module _ (q : QueryTree) (rs : List Row) where
  abbrev types : List DataType
  types = key_types q

  abbrev rows : List SpillRow
  rows = map (spilled types) rs

  abbrev keys : List (List AnyValue)
  keys = tuples_of rs

  -- what the extent of a tuple is
  abbrev extent_at_key : List AnyValue → Extent
  extent_at_key k = record { last = place_of (last_entry (rows_at rs k)); rows = length (rows_at rs k) }

  module _ (typed : All (IsRowOf q) rs) where
    rows-typed : All (λ r. AreOfTypes types r.key) rs
    rows-typed = All-weaker (IsRowOf q) (λ r. AreOfTypes types r.key) (λ r t. t.key.fit) rs typed

    keys-typed : All (AreOfTypes types) keys
    keys-typed = sorted-holds (AreOfTypes types) tuple_cmp (keys_of rs) (All-map (AreOfTypes types) (λ (r : Row). r.key) rs rows-typed)

    -- the extent of its code is that
    extent-coded : (k : List AnyValue) → AreOfTypes types k → extent_of rows (code types k) ≡ extent_at_key k
    extent-coded k own =
        let entries : entries_of (of_key (code types k) rows) ≡ rows_at rs k = spilled-at types rs k own rows-typed in
        let count : length (of_key (code types k) rows) ≡ length (rows_at rs k) =
        sym (length-map (of_key (code types k) rows) (λ (r : SpillRow). (r.place, r.values))) ∙ ap (λ (es : List (Place × List AnyValue)). length es) entries in
        λ i. record { last = place_of (last_entry (entries i)); rows = count i }

    extents-coded : (ks : List (List AnyValue)) → All (AreOfTypes types) ks → map (extent_of rows) (map (code types) ks) ≡ map extent_at_key ks
    extents-coded [] h = refl
    extents-coded (k ∷ ks) h =
        let here = extent-coded k (All-head (AreOfTypes types) k ks h) in
        let rest = extents-coded ks (All-tail (AreOfTypes types) k ks h) in
        λ i. here i ∷ rest i

  -- so the extents of groups that hold the rows, in the order of keys, are those of the tuples
  pub turned-are : (gs : List Group) → HoldRowsOf q gs rs → HaveDistinctPlaces rs → (extents : List Extent) → extents ≡ extents_of rows gs → (order : List ℕ) → All (λ i. i < length gs) order
      → map (group_of gs) order ≡ in_order gs → map (extent_at extents) order ≡ map extent_at_key keys
  turned-are gs h distinct extents are order within ordered =
      ap (λ (es : List Extent). map (extent_at es) order) are
      ∙ extents-turned rows gs order within
      ∙ ap (extents_of rows) ordered
      ∙ sym (map-map (extent_of rows) (λ (g : Group). g.key) (in_order gs))
      ∙ ap (map (extent_of rows)) (keys-coded q rs gs h distinct)
      ∙ extents-coded h.typed keys (keys-typed h.typed)

  -- ---- rows of a frame

  -- the values of lists are those of a row of the columns
  lists-row : (columns : List ColumnData) (n : ℕ) → values_in n (map (λ c. c.values) columns) ≡ row_at columns n
  lists-row columns n = map-map (λ (l : List AnyValue). value_at l n) (λ (c : ColumnData). c.values) columns

  module _ (typed : All (IsRowOf q) rs) (frame : FrameData) (firsts : List Place) (placed : ArePlacedRows q rs keys frame firsts) (turned : List Extent) (are : turned ≡ map extent_at_key keys) where
    -- of the row of a tuple
    row-there : (n : ℕ) → n < length keys → row_at frame.columns n ≡ answer_row q rs (get_or keys n [])
    row-there n lt =
        let all : List (List AnyValue) = map (answer_row q rs) keys in
        let row : get_or all n [] ≡ answer_row q rs (get_or keys n []) = get_or-map (answer_row q rs) keys n [] [] lt in
        let long : length (get_or all n []) ≡ length (output_schema q) = ap (λ (r : List AnyValue). length r) row ∙ answer_row-length q rs (get_or keys n []) (keys-typed typed n [] lt) in
        ap (λ (f : FrameData). row_at f.columns n) placed.frame_is ∙ row-frame (output_schema q) all n (omega (arith, lt, length-map keys (answer_row q rs))) long ∙ row

    -- the first so many are its tuple, and the others its aggregates
    key-there : (n : ℕ) → n < length keys → values_in n (map (λ c. c.values) (take (length types) frame.columns)) ≡ get_or keys n []
    key-there n lt =
        lists-row (take (length types) frame.columns) n
        ∙ sym (take-map (λ (c : ColumnData). value_at c.values n) (length types) frame.columns)
        ∙ ap (take (length types)) (row-there n lt)
        ∙ take_at (get_or keys n []) (aggs_from 0 q.schema q.aggs (rows_at rs (get_or keys n []))) (length types) (as_long types (get_or keys n []) (keys-typed typed n [] lt))

    results-there : (n : ℕ) → n < length keys → values_in n (map (λ c. c.values) (drop (length types) frame.columns)) ≡ aggs_from 0 q.schema q.aggs (rows_at rs (get_or keys n []))
    results-there n lt =
        lists-row (drop (length types) frame.columns) n
        ∙ sym (drop-map (λ (c : ColumnData). value_at c.values n) (length types) frame.columns)
        ∙ ap (drop (length types)) (row-there n lt)
        ∙ drop_at (get_or keys n []) (aggs_from 0 q.schema q.aggs (rows_at rs (get_or keys n []))) (length types) (as_long types (get_or keys n []) (keys-typed typed n [] lt))

    -- there is a first place for each tuple
    pub firsts-count : length firsts ≡ length keys
    firsts-count =
        sym (length-map firsts (λ (p : Place). Some p)) ∙ ap (λ (l : List (Option Place)). length l) placed.firsts_are
        ∙ length-map keys (λ (k : List AnyValue). option_map (λ e. e.0) (first_entry (rows_at rs k)))

    first-there : (n : ℕ) → n < length keys → get_or firsts n no_place ≡ place_of (first_entry (rows_at rs (get_or keys n [])))
    first-there n lt =
        let first : List AnyValue → Option Place = λ k. option_map (λ e. e.0) (first_entry (rows_at rs k)) in
        let here : get_or (map (λ p. Some p) firsts) n None ≡ Some (get_or firsts n no_place) = get_or-map (λ (p : Place). Some p) firsts n no_place None (omega (arith, lt, firsts-count)) in
        let there : get_or (map first keys) n None ≡ first (get_or keys n []) = get_or-map first keys n [] None lt in
        place-some (first_entry (rows_at rs (get_or keys n []))) (get_or firsts n no_place)
        (sym here ∙ ap (λ (l : List (Option Place)). get_or l n None) placed.firsts_are ∙ there)

    extent-there : (n : ℕ) → n < length keys → extent_at turned n ≡ extent_at_key (get_or keys n [])
    extent-there n lt = ap (λ (es : List Extent). extent_at es n) are ∙ get_or-map extent_at_key keys n [] no_extent lt

    -- as many extents as first places
    pub extents-count : length turned ≡ length firsts
    extents-count = ap (λ (es : List Extent). length es) are ∙ length-map keys extent_at_key ∙ sym firsts-count

    -- so the rows that are taken out are the state rows
    pub rows-are : map (row_in (map (λ c. c.values) (take (length types) frame.columns)) (map (λ c. c.values) (drop (length types) frame.columns)) firsts turned) (range_with_len 0 (length firsts)) ≡ state_rows q rs
    rows-are =
        let ks : List (List AnyValue) = map (λ c. c.values) (take (length types) frame.columns) in
        let results : List (List AnyValue) = map (λ c. c.values) (drop (length types) frame.columns) in
        ap (λ (n : ℕ). map (row_in ks results firsts turned) (range_with_len 0 n)) firsts-count
        ∙ range-map (row_in ks results firsts turned) (state_row q rs) keys [] 0 (λ n lt.
        let extent = extent-there n lt in
        let none : 0 + n ≡ n = omega arith in
        ap (row_in ks results firsts turned) none ∙ λ i. record {
          key = key-there n lt i;
          first = first-there n lt i;
          last = (extent i).last;
          rows = (extent i).rows;
          results = results-there n lt i;
        })

-- ---- where rows stand

-- the rows of a chunk have numbers below its height
chunk-low : (q : QueryTree) (i : ℕ) (frame : FrameData) (n : ℕ) → frame.height ≤ n → All (λ r. r.place.row < n) (chunk_rows q i frame)
chunk-low q i frame n le =
    All-map (λ (r : Row). r.place.row < n) (row_of q i frame) (range_with_len 0 frame.height)
    (λ k d lt. omega (arith, le, get_or-range_with_len 0 frame.height k d (omega (arith, lt, length-range_with_len 0 frame.height)), lt, length-range_with_len 0 frame.height))

-- so those of chunks are below any number above that of all rows
rows-low : (q : QueryTree) (i : ℕ) (cs : List DataChunk) (n : ℕ) → total_height cs < n → All (λ r. r.place.row < n) (rows_from q i cs)
rows-low q i [] n lt = All-nil (λ (r : Row). r.place.row < n)
rows-low q i (c ∷ cs) n lt =
    let sum = sum_by-cons (λ (x : DataChunk). x.frame.height) c cs in
    All-append (λ (r : Row). r.place.row < n) (chunk_rows q i c.frame) (rows_from q (i + 1) cs)
    (chunk-low q i c.frame n (omega (arith, sum, lt))) (rows-low q (i + 1) cs n (omega (arith, sum, lt)))

-- the rows of few chunks have places and values that a program can hold
rows-valued : (q : QueryTree) (first : ℕ) (cs : List DataChunk) → AreFew first cs → All (IsRowOf q) (rows_from q first cs) → All (HasValues (key_types q) (input_types q)) (rows_from q first cs)
rows-valued q first cs few typed =
    λ k d lt.
    let r = get_or (rows_from q first cs) k d in
    let own : IsRowOf q r = typed k d lt in
    let within = (part-in_range q first cs).within k d lt in
    let row = rows-low q first cs (2 ^ 32) few.rows k d lt in
    record {
      chunk = omega (arith, within.below, few.positions);
      row = row;
      key = record { of_types = own.key.fit; utf8 = own.key.utf8 };
      inputs = record { of_types = own.inputs.fit; utf8 = own.inputs.utf8 };
    }

-- ---- by what a table gives

-- the columns of a frame of groups are no fewer than those of their keys
pub width-fits : (s : Shape) (gs : List Group) (f : FrameData) → IsShape s → IsFrameOfGroups s gs f → length s.key_types ≤ length f.columns
width-fits s gs f shape is =
    let q : QueryTree = shape.query in
    let field : Expr → Field = λ e. record { name = name_of e; dtype = known_type e q.schema } in
    let type : Expr → DataType = λ e. known_type e q.schema in
    let more : List Field = flat_map (λ a. agg_fields a.name a.kind (input_type q.schema a.input)) q.aggs in
    let types = ap (λ (x : Shape). length x.key_types) shape.of_query ∙ length-map q.keys type in
    let fields = ap (λ (x : Shape). length x.fields) shape.of_query ∙ length-append (map field q.keys) more in
    let keys = length-map q.keys field in
    let columns = ap (λ (x : FrameData). length x.columns) is.frame_is ∙ sym (length-map (columns_from 0 s.fields is.rows) field_of) ∙ ap (λ (l : List Field). length l) (frame-fields 0 s.fields is.rows) in
    omega (arith, types, fields, keys, columns)

-- there are as many extents as first places
pub count-fits : (gs : List Group) (extents turned : List Extent) (order : List ℕ) (firsts : List Place) → turned ≡ map (extent_at extents) order → map (group_of gs) order ≡ in_order gs
    → map Some firsts ≡ map (λ g. g.first) (in_order gs) → length turned ≡ length firsts
count-fits gs extents turned order firsts is ordered are =
    ap (λ (es : List Extent). length es) is ∙ length-map order (extent_at extents)
    ∙ sym (length-map order (group_of gs)) ∙ ap (λ (l : List Group). length l) ordered
    ∙ sym (length-map (in_order gs) (λ (g : Group). g.first)) ∙ ap (λ (l : List (Option Place)). length l) (sym are) ∙ length-map firsts (λ (p : Place). Some p)

-- what a table gives in order
pub record IsGiven (t : Table) (extents : List Extent) (order : List ℕ) (turned : List Extent) (frame : FrameData) (firsts : List Place) (width : ℕ) : Type 0 where
  pub table : IsTable t
  pub within : All (λ i. i < length t.groups) order
  pub ordered : map (group_of t.groups) order ≡ in_order t.groups
  pub turned_are : turned ≡ map (extent_at extents) order
  pub frame_is : IsFrameOfGroups t.shape (in_order t.groups) frame
  pub firsts_are : map Some firsts ≡ map (λ g. g.first) (in_order t.groups)
  pub width_is : width ≡ length t.shape.key_types

-- where it has taken chunks it is their state rows
pub given-rows : (x : Query) (first : ℕ) (taken : List DataChunk) (t : Table) (extents : List Extent) (order : List ℕ) (turned : List Extent) (frame : FrameData) (firsts : List Place) (width : ℕ)
    → IsGiven t extents order turned frame firsts width → IsSound x → IsGroupable (query_tree x) → HasTaken (query_tree x) first taken t extents
    → map (row_in (map (λ c. c.values) (take width frame.columns)) (map (λ c. c.values) (drop width frame.columns)) firsts turned) (range_with_len 0 (length firsts))
    ≡ state_rows (query_tree x) (rows_from (query_tree x) first taken)
given-rows x first taken t extents order turned frame firsts width g sound groupable h =
    let q : QueryTree = query_tree x in
    let rs : List Row = rows_from q first taken in
    let own : HoldRowsOf q t.groups rs = record {
      groupable = groupable;
      typed = TypeFacts.rows-typed x first taken sound h.fit h.typed;
      apart = g.table.apart;
      holds = h.fed.holds;
    } in
    let distinct : HaveDistinctPlaces rs = (part-in_range q first taken).distinct in
    let placed : ArePlaced (shape_of q) t.groups frame firsts = record {
      frame_is = subst (λ (s : Shape). IsFrameOfGroups s (in_order t.groups) frame) h.fed.shape g.frame_is;
      firsts_are = g.firsts_are;
    } in
    let rows : ArePlacedRows q rs (tuples_of rs) frame firsts = held-placed q rs t.groups frame firsts own distinct placed in
    let wide : width ≡ length (key_types q) = g.width_is ∙ ap (λ (s : Shape). length s.key_types) h.fed.shape in
    ap (λ (n : ℕ). map (row_in (map (λ c. c.values) (take n frame.columns)) (map (λ c. c.values) (drop n frame.columns)) firsts turned) (range_with_len 0 (length firsts))) wide
    ∙ rows-are q rs own.typed frame firsts rows turned (g.turned_are ∙ turned-are q rs t.groups own distinct extents h.fed.extents order g.within g.ordered)

-- ---- the state of chunks

-- chunks that were taken can be saved
pub can-save : (q : QueryTree) (first : ℕ) (taken : List DataChunk) → AreFew first taken → CanSave (part_of q first taken)
can-save q first taken few = record {
  in_range = part-in_range q first taken;
  range = omega arith;
  end = few.positions;
  rows = rows-low q first taken (2 ^ 32) few.rows;
  few = omega (arith, rows_from-length q first taken, few.rows);
}

-- their state is one of the query
pub state-of : (x : Query) (first : ℕ) (taken : List DataChunk) → IsSound x → IsGroupable (query_tree x) → AreFew first taken → AllFit (query_tree x).schema taken → All (λ c. HoldsTypes c.frame) taken
    → IsStateOf (query_tree x) (saved (query_tree x) (part_of (query_tree x) first taken))
state-of x first taken sound groupable few fit typed =
    let q : QueryTree = query_tree x in
    saved-of q (part_of q first taken) groupable
    (rows-valued q first taken few (TypeFacts.rows-typed x first taken sound fit typed)) (omega (arith, rows_from-length q first taken, few.rows))
