-- What groups that hold the rows of a query give in the order of places: rows of its answer.
use Rattle.std.proofs.Common.{◌≡◌, ◌∙◌, ℕ, ◌<◌, true, List, [], ◌∷◌, length, map, get_or, Option, refl, sym, ap, subst, arith}
use Rattle.std.specs.List.{All, AllZip, IsDistinct}
use Rattle.std.proofs.lemmas.List.{get_or-map, length-map}
use Rattle.std.proofs.lemmas.List.Elements.{All-head, All-map, All-tail, All-weaker}
use Rattle.pipe_columns.specs.declared.any_value.AnyValue.{AnyValue}
use Rattle.pipe_columns.specs.declared.place.Place.{Place}
use Rattle.pipe_columns.specs.declared.schema.Field.{Field}
use Rattle.pipe_columns.specs.Frame.{fields_of, frame_of, FrameData}
use Rattle.pipe_columns.specs.Groups.{sorted_keys}
use Rattle.pipe_columns.specs.Key.{code}
use Rattle.pipe_columns.specs.Place.{place_cmp}
use Rattle.pipe_columns.specs.Row.{Row}
use Rattle.pipe_columns.specs.Slice.{sliced}
use Rattle.pipe_columns.proofs.AscendingFacts.{sorted-holds}
use Rattle.pipe_columns.proofs.ElementFacts.{all_has, Has}
use Rattle.pipe_inputs.specs.RowTypes.{IsRowOf}
use Rattle.pipe_model.specs.Answer.{answer_of, answer_row, tuple_cmp}
use Rattle.pipe_model.specs.Output.{key_types, output_schema}
use Rattle.pipe_model.specs.Query.{QueryTree}
use Rattle.pipe_model.specs.Rows.{HaveDistinctPlaces}
use Rattle.pipe_spill.specs.KeyTypes.{AreOfTypes}
use Rattle.pipe_groups.specs.Given.{in_order, IsFrameOfGroups, IsRowOfGroup}
use Rattle.pipe_groups.specs.Groups.{Group, group_keys, no_group}
use Rattle.pipe_groups.specs.Placed.{AreFirsts, group_with, groups_by_place, HaveFirstsApart, in_order_of_parts, IsFrameByRow, key_places, row_with, rows_by_place}
use Rattle.pipe_groups.specs.PlacedRanks.{place_at}
use Rattle.pipe_groups.specs.QueryRows.{ArePlacedRows, HoldRowsOf}
use Rattle.pipe_groups.specs.Shape.{shape_of}
use Rattle.pipe_groups.proofs.AnswerFacts.{group-at, group_at, held-firsts, order-is, rows-are, sliced-holds, sliced-map, tuples_of}
use Rattle.pipe_groups.proofs.ByPlaceFacts.{by_key-once, by_key-same, placed-answer, placed-apart}
use Rattle.pipe_groups.proofs.FrameRows.{answer_row-length, frame-fields, row-frame}
use Rattle.pipe_groups.proofs.PlaceOrder.{place-found, same_place}
use Rattle.pipe_groups.proofs.TurnFacts.{key_places-length, key_places-once}

module _ (q : QueryTree) (rs : List Row) (gs : List Group) (h : HoldRowsOf q gs rs) (distinct : HaveDistinctPlaces rs) where
  -- the keys of the rows, in order
  abbrev keys : List (List AnyValue)
  keys = sorted_keys tuple_cmp (tuples_of rs)

  -- the group of a key
  abbrev own_group : List AnyValue → Group
  own_group k = group_at q h.groupable rs h.typed gs h.apart h.holds k

  abbrev IsRowKey : List AnyValue → Type 0
  IsRowKey k = Has k (tuples_of rs)

  keys-there : All IsRowKey keys
  keys-there = sorted-holds IsRowKey tuple_cmp (tuples_of rs) (all_has (tuples_of rs))

  keys-typed : All (AreOfTypes (key_types q)) keys
  keys-typed = sorted-holds (AreOfTypes (key_types q)) tuple_cmp (tuples_of rs)
      (All-map (AreOfTypes (key_types q)) (λ (r : Row). r.key) rs (All-weaker (IsRowOf q) (λ r. AreOfTypes (key_types q) r.key) (λ r t. t.key.fit) rs h.typed))

  in-order : in_order gs ≡ map own_group keys
  in-order = order-is q h.groupable rs h.typed gs h.apart h.holds

  -- their rows of the answer, and the frame of these
  abbrev all_rows : List (List AnyValue)
  all_rows = map (answer_row q rs) keys

  abbrev pub whole : FrameData
  whole = frame_of (output_schema q) all_rows

  -- ---- in the order of some places

  module _ (places : List Place) (apart : IsDistinct same_place places) (count : length places ≡ length keys) where
    abbrev IsThere : Place → Type 0
    IsThere p = place_at places p < length keys

    all-there : All IsThere (sorted_keys place_cmp places)
    all-there = sorted-holds IsThere place_cmp places (λ k d lt. omega (arith, lt, count, place-found places k d apart lt))

    -- the key at the position of a place
    abbrev key_at : Place → List AnyValue
    key_at p = get_or keys (place_at places p) []

    abbrev placed_keys : List (List AnyValue)
    placed_keys = map key_at (sorted_keys place_cmp places)

    placed-there : All IsRowKey placed_keys
    placed-there = All-map IsRowKey key_at (sorted_keys place_cmp places) (λ k d lt. keys-there (place_at places (get_or (sorted_keys place_cmp places) k d)) [] (all-there k d lt))

    groups-keyed : (ps : List Place) → All IsThere ps → map (group_with places (map own_group keys)) ps ≡ map own_group (map key_at ps)
    groups-keyed [] t = refl
    groups-keyed (p ∷ ps) t =
        let here = get_or-map own_group keys (place_at places p) [] no_group (All-head IsThere p ps t) in
        let rest = groups-keyed ps (All-tail IsThere p ps t) in
        λ i. here i ∷ rest i

    rows-keyed : (ps : List Place) → All IsThere ps → map (row_with places whole) ps ≡ map (answer_row q rs) (map key_at ps)
    rows-keyed [] t = refl
    rows-keyed (p ∷ ps) t =
        let i : ℕ = place_at places p in
        let lt : i < length keys = All-head IsThere p ps t in
        let row : get_or all_rows i [] ≡ answer_row q rs (key_at p) = get_or-map (answer_row q rs) keys i [] [] lt in
        let long : length (get_or all_rows i []) ≡ length (output_schema q) = ap (λ (r : List AnyValue). length r) row ∙ answer_row-length q rs (key_at p) (keys-typed i [] lt) in
        let here = row-frame (output_schema q) all_rows i (omega (arith, lt, length-map keys (answer_row q rs))) long ∙ row in
        let rest = rows-keyed ps (All-tail IsThere p ps t) in
        λ j. here j ∷ rest j

    -- a frame of the groups is that of the rows
    pub placed-frame : (slice : Option (ℕ × ℕ)) (f : FrameData) → IsFrameOfGroups (shape_of q) (sliced slice (groups_by_place places (in_order gs))) f
        → f ≡ frame_of (fields_of whole.columns) (sliced slice (rows_by_place places whole))
    placed-frame slice f is =
        let same : sliced slice (groups_by_place places (in_order gs)) ≡ map own_group (sliced slice placed_keys) =
        ap (λ (xs : List Group). sliced slice (groups_by_place places xs)) in-order ∙ ap (sliced slice) (groups-keyed (sorted_keys place_cmp places) all-there) ∙ sliced-map own_group slice placed_keys in
        let each : AllZip (λ g row. IsRowOfGroup (shape_of q) g row) (map own_group (sliced slice placed_keys)) is.rows =
        subst (λ (l : List Group). AllZip (λ g row. IsRowOfGroup (shape_of q) g row) l is.rows) same is.each in
        let rows : is.rows ≡ map (answer_row q rs) (sliced slice placed_keys) =
        rows-are q h.groupable rs h.typed gs h.apart h.holds distinct (sliced slice placed_keys) is.rows (sliced-holds IsRowKey slice placed_keys placed-there) each in
        let placed : is.rows ≡ sliced slice (rows_by_place places whole) =
        rows ∙ sym (sliced-map (answer_row q rs) slice placed_keys) ∙ ap (sliced slice) (sym (rows-keyed (sorted_keys place_cmp places) all-there)) in
        is.frame_is ∙ ap (frame_of (output_schema q)) placed
        ∙ ap (λ (fields : List Field). frame_of fields (sliced slice (rows_by_place places whole))) (sym (frame-fields 0 (output_schema q) all_rows))

  -- ---- in the order of first rows

  placed-rows : (firsts : List Place) → AreFirsts gs firsts → ArePlacedRows q rs keys whole firsts
  placed-rows firsts are = record { frame_is = refl; firsts_are = are ∙ held-firsts q rs gs h }

  -- no two groups have their first row at one place
  pub firsts-apart : HaveFirstsApart gs
  firsts-apart firsts are = (placed-apart q rs distinct keys (by_key-same rs) whole firsts (placed-rows firsts are) (by_key-once rs)).1

  -- where order is kept they give the answer
  pub by_row-answer : q.keeps_order ≡ true → (f : FrameData) → IsFrameByRow (shape_of q) gs q.slice f → f ≡ answer_of rs q 1
  by_row-answer kept f is =
      let placed : ArePlacedRows q rs keys whole is.firsts = placed-rows is.firsts is.firsts_are in
      let count : length is.firsts ≡ length keys = (placed-apart q rs distinct keys (by_key-same rs) whole is.firsts placed (by_key-once rs)).0 ∙ length-map keys (answer_row q rs) in
      placed-answer q rs distinct keys (by_key-same rs) whole is.firsts placed h.typed kept f (placed-frame is.firsts (firsts-apart is.firsts is.firsts_are) count q.slice f is.frame_is)

  -- ---- by partition

  codes-of : (ks : List (List AnyValue)) → All IsRowKey ks → group_keys (map own_group ks) ≡ map (code (key_types q)) ks
  codes-of [] t = refl
  codes-of (k ∷ ks) t =
      let here = (group-at q h.groupable rs h.typed gs h.apart h.holds k (All-head IsRowKey k ks t)).key in
      let rest = codes-of ks (All-tail IsRowKey k ks t) in
      λ i. here i ∷ rest i

  -- the keys of the groups in order are the codes of those of the rows
  pub keys-coded : group_keys (in_order gs) ≡ map (code (key_types q)) keys
  keys-coded = ap group_keys in-order ∙ codes-of keys keys-there

  -- a frame of the groups by partition is that of the rows by the places of their keys
  pub by_part-frame : (n : ℕ) (slice : Option (ℕ × ℕ)) (f : FrameData) → IsFrameOfGroups (shape_of q) (sliced slice (in_order_of_parts n gs)) f
      → f ≡ frame_of (fields_of whole.columns) (sliced slice (rows_by_place (key_places n 0 (map (code (key_types q)) keys)) whole))
  by_part-frame n slice f is =
      let count : length (key_places n 0 (group_keys (in_order gs))) ≡ length keys =
      key_places-length n 0 (group_keys (in_order gs)) ∙ ap (λ (ks : List (List ℕ)). length ks) keys-coded ∙ length-map keys (code (key_types q)) in
      placed-frame (key_places n 0 (group_keys (in_order gs))) (key_places-once n 0 (group_keys (in_order gs))) count slice f is
      ∙ ap (λ (ks : List (List ℕ)). frame_of (fields_of whole.columns) (sliced slice (rows_by_place (key_places n 0 ks) whole))) keys-coded
