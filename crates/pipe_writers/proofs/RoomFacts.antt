-- Frames that are filled in room that was made before.
use Rattle.std.proofs.Common.{◌≡◌, ◌∙◌, ◌+◌, ◌<◌, ◌≤◌, ◌==◌, ℕ, zero, suc, true, List, [], ◌∷◌, ◌++◌, map, false, length, get_or, set, Option, Some, unwrap_or, refl, sym, ap, ap₂, arith, subst, fold}
use Rattle.std.specs.List.{All}
use Rattle.std.specs.List.Sorted.{IsPermutation}
use Rattle.std.proofs.Math.ListN.{get_or-map}
use Rattle.std.proofs.lemmas.Bool.{and_parts, eq-eqb, eqb-true}
use Rattle.std.proofs.lemmas.List.{length-map, map-append, map-set}
use Rattle.std.proofs.lemmas.List.Sorted.{All-permutation, length_permutation}
use Rattle.std.proofs.lemmas.List.Sums.{fold-append, sum_by-append, sum_by-cons}
use Rattle.std.proofs.lemmas.List.Elements.{All-append, All-cons, All-get_or, All-head, All-nil, All-set}
use Rattle.pipe_columns.specs.declared.any_value.AnyValue.{AnyValue}
use Rattle.pipe_columns.specs.declared.data_chunk.DataChunk.{DataChunk}
use Rattle.pipe_columns.specs.declared.schema.Field.{Field}
use Rattle.pipe_columns.specs.Frame.{AllHaveHeight, ColumnData, FitsSchema, FrameData, all_have_height, appended, appended_all, columns_from, fields_of, field_of, frame_of, stacked, unsorted}
use Rattle.pipe_columns.proofs.FrameFacts.{appended_get, empty_height, empty_more, first_same, pair_count, pair_step, pair_type, stacked_height}
use Rattle.pipe_writers.proofs.KeptFacts.{All-next, fields-stacked}
use Rattle.pipe_writers.specs.Kept.{joined_frames, row_count, with_frame_below}
use Rattle.pipe_writers.specs.Room.{ColumnRoomData, HasRoom, IsFrameRoom, all_stacked, filled_column, filled_columns}

false-not-true : false ≡ true → ⊥
false-not-true e = cc e

-- ---- one column after another

-- as many columns as before
appended_length : (ds cs : List ColumnData) → length ds < length cs → length (appended_all ds cs) ≡ length cs
appended_length [] cs few = refl
appended_length (d ∷ ds) [] few = absurd (omega arith)
appended_length (d ∷ ds) (c ∷ cs) few = ap suc (appended_length ds cs (omega (arith, few)))

-- a column of a height, at a place
height_at : (n : ℕ) (cs : List ColumnData) (k : ℕ) (c : ColumnData) → AllHaveHeight n cs → k < length cs → length (get_or cs k c).values ≡ n
height_at n [] k c tall lt = absurd (omega arith)
height_at n (x ∷ cs) zero c tall lt = eqb-true _ _ (and_parts (length x.values == n) (all_have_height n cs) tall).0
height_at n (x ∷ cs) (suc k) c tall lt = height_at n cs k c (and_parts (length x.values == n) (all_have_height n cs) tall).1 (omega (arith, lt))

-- and behind others
height_next : (n : ℕ) (done : List ColumnData) (d : ColumnData) (rest : List ColumnData) → AllHaveHeight n (done ++ d ∷ rest) → length d.values ≡ n
height_next n [] d rest tall = eqb-true _ _ (and_parts (length d.values == n) (all_have_height n rest) tall).0
height_next n (x ∷ done) d rest tall = height_next n done d rest (and_parts (length x.values == n) (all_have_height n (done ++ d ∷ rest)) tall).1

-- columns that wait for their partners, and the next of them
module _ (done rest others : List ColumnData) (cs now : List ColumnRoomData) (d : ColumnData) (x : ColumnRoomData)
    (is : others ≡ done ++ d ∷ rest) (same : fields_of others ≡ fields_of (filled_columns cs))
    (so_far : filled_columns now ≡ appended_all done (filled_columns cs)) where
  abbrev next : ColumnRoomData
  next = get_or now (length done) x

  next_is : filled_column next ≡ get_or (filled_columns now) (length done) (filled_column x)
  next_is = sym (get_or-map filled_column now (length done) x)

  few_done : length done < length (filled_columns cs)
  few_done = pair_count done rest others (filled_columns cs) d is same

  -- there is one more
  fill_count : length done < length now
  fill_count = omega (arith, few_done, ap length so_far, appended_length done (filled_columns cs) few_done, length-map now filled_column)

  -- it is of its partner's type
  pub fill_type : d.dtype ≡ next.field.dtype
  fill_type =
      pair_type done rest others (filled_columns cs) (filled_columns now) d (filled_column x) is same so_far
      ∙ ap (λ (c : ColumnData). c.dtype) (sym next_is)

  -- and has room for its partner's values
  pub fill_room : (height more most : ℕ) → AllHaveHeight height (filled_columns cs) → AllHaveHeight more others → height + more ≤ most
      → All (HasRoom most) now → length next.values + length d.values ≤ next.room
  fill_room height more most tall others_tall few room =
      let k : ℕ = length done in
      let here : filled_column next ≡ get_or (filled_columns cs) k (filled_column x) =
      next_is ∙ ap (λ (t : List ColumnData). get_or t k (filled_column x)) so_far ∙ appended_get done (filled_columns cs) (filled_column x) in
      let high : length next.values ≡ height = ap (λ (c : ColumnData). length c.values) here ∙ height_at height (filled_columns cs) k (filled_column x) tall few_done in
      let low : length d.values ≡ more = height_next more done d rest (ap (all_have_height more) (sym is) ∙ others_tall) in
      let wide : most ≤ next.room = All-get_or (HasRoom most) now k x fill_count room in
      omega (arith, high, low, wide, few)

  -- one more is filled
  pub fill_step : (new : ColumnRoomData) → new.field ≡ next.field → new.values ≡ next.values ++ d.values
      → filled_columns (set now (length done) new) ≡ appended_all (done ++ d ∷ []) (filled_columns cs)
  fill_step new field values =
      let k : ℕ = length done in
      let made : filled_column new ≡ appended (filled_column next) d =
      ap₂ (λ (f : Field) (vs : List AnyValue). record { name = f.name; dtype = f.dtype; sorted = false; values = vs }) field values in
      map-set filled_column now k new
      ∙ pair_step done (filled_columns cs) (filled_columns now) d (filled_column x) (filled_column new) few_done so_far (made ∙ ap (λ (c : ColumnData). appended c d) next_is)

  -- and all have room
  pub fill_wide : (most : ℕ) (new : ColumnRoomData) → next.room ≤ new.room → All (HasRoom most) now → All (HasRoom most) (set now (length done) new)
  fill_wide most new more room =
      let wide : most ≤ next.room = All-get_or (HasRoom most) now (length done) x fill_count room in
      let still : most ≤ new.room = omega (arith, wide, more) in
      All-set (HasRoom most) now (length done) new still room

-- ---- one frame after another

-- columns that are filled have no flag
pub never_flagged : (rs : List ColumnRoomData) → map unsorted (filled_columns rs) ≡ filled_columns rs
never_flagged [] = refl
never_flagged (r ∷ rs) = ap (λ (t : List ColumnData). filled_column r ∷ t) (never_flagged rs)

-- room for one more column
pub room_more : (rs : List ColumnRoomData) (fs : List Field) (f : Field) (r : ColumnRoomData) (most : ℕ) → filled_columns rs ≡ columns_from 0 fs []
    → r ≡ record { field = f; values = []; room = most } → filled_columns (rs ++ r ∷ []) ≡ columns_from 0 (fs ++ f ∷ []) []
room_more rs fs f r most so_far is =
    map-append filled_column rs (r ∷ []) ∙ ap₂ (λ (cs : List ColumnData) (x : ColumnRoomData). cs ++ filled_column x ∷ []) so_far is ∙ sym (empty_more 0 fs f)

-- so wide as those before
pub wide_more : (rs : List ColumnRoomData) (f : Field) (r : ColumnRoomData) (most : ℕ) → All (HasRoom most) rs
    → r ≡ record { field = f; values = []; room = most } → All (HasRoom most) (rs ++ r ∷ [])
wide_more rs f r most wide is =
    let room : r.room ≡ most = ap (λ (x : ColumnRoomData). x.room) is in
    let here : most ≤ r.room = omega (arith, room) in
    All-append (HasRoom most) rs (r ∷ []) wide (All-cons (HasRoom most) r [] here (All-nil (HasRoom most)))

-- room for columns without a value
pub new_room : (rs : List ColumnRoomData) (fs : List Field) (most count room : ℕ) → filled_columns rs ≡ columns_from 0 fs [] → All (HasRoom most) rs
    → count ≡ 0 → length rs ≡ room → IsFrameRoom rs 0 most count room
new_room rs fs most count room empty wide none places = record {
  tall = ap (all_have_height 0) empty ∙ empty_height 0 fs;
  wide = wide;
  none = none;
  places = omega (arith, places);
}

-- a frame that is filled is the former with another below it
pub filled_frame : (new : List ColumnRoomData) (old frame : FrameData) → filled_columns new ≡ appended_all frame.columns old.columns
    → filled_columns new ≡ (stacked old frame).columns
filled_frame new old frame filled = sym (never_flagged new) ∙ ap (map unsorted) filled

-- what a room for frames keeps where it is filled
pub kept_room : (rooms new : List ColumnRoomData) (others : List ColumnData) (height more most count room : ℕ) → IsFrameRoom rooms height most count room
    → fields_of others ≡ fields_of (filled_columns rooms) → AllHaveHeight more others → filled_columns new ≡ appended_all others (filled_columns rooms)
    → All (HasRoom most) new → length new ≡ length rooms → IsFrameRoom new (height + more) most count room
kept_room rooms new others height more most count room is same others_tall filled wide long = record {
  tall = ap (all_have_height (height + more)) (sym (never_flagged new) ∙ ap (map unsorted) filled) ∙ stacked_height height more others (filled_columns rooms) same is.tall others_tall;
  wide = wide;
  none = is.none;
  places = omega (arith, is.places, long);
}

-- frames below another keep its fields
stacked_fields : (f : FrameData) (cs : List DataChunk) → fields_of (all_stacked f cs).columns ≡ fields_of f.columns
stacked_fields f [] = refl
stacked_fields f (c ∷ cs) = stacked_fields (stacked f c.frame) cs ∙ fields-stacked c.frame.columns f.columns

-- and add their rows
stacked_rows : (f : FrameData) (cs : List DataChunk) → (all_stacked f cs).height ≡ f.height + row_count cs
stacked_rows f [] = omega arith
stacked_rows f (c ∷ cs) = stacked_rows (stacked f c.frame) cs ∙ omega (arith, sum_by-cons (λ (x : DataChunk). x.frame.height) c cs)

-- one more is below them
pub stacked_more : (f : FrameData) (done : List DataChunk) (c : DataChunk) → all_stacked f (done ++ c ∷ []) ≡ stacked (all_stacked f done) c.frame
stacked_more f done c = fold-append (λ (g : FrameData) (chunk : DataChunk). stacked g chunk.frame) f done (c ∷ [])

-- the next chunk fits below those before it
module _ (f : FrameData) (all done : List DataChunk) (c : DataChunk) (rest : List DataChunk) (now : FrameData) (is : all ≡ done ++ c ∷ rest) (so_far : now ≡ all_stacked f done) where
  pub next_fields : All (λ x. FitsSchema (fields_of f.columns) x.frame) all → fields_of c.frame.columns ≡ fields_of now.columns
  next_fields fit =
      All-next (fields_of f.columns) done c rest (subst (All (λ (x : DataChunk). FitsSchema (fields_of f.columns) x.frame)) is fit)
      ∙ sym (ap (λ (g : FrameData). fields_of g.columns) so_far ∙ stacked_fields f done)

  pub next_room : (most : ℕ) → f.height + row_count all ≤ most → now.height + c.frame.height ≤ most
  next_room most few =
      let count : row_count all ≡ row_count done + row_count (c ∷ rest) = ap row_count is ∙ sum_by-append (λ (x : DataChunk). x.frame.height) done (c ∷ rest) in
      let here : row_count (c ∷ rest) ≡ c.frame.height + row_count rest = sum_by-cons (λ (x : DataChunk). x.frame.height) c rest in
      let high : now.height ≡ f.height + row_count done = ap (λ (g : FrameData). g.height) so_far ∙ stacked_rows f done in
      omega (arith, few, count, here, high)

-- the fields of columns without a value
empty_fields : (i : ℕ) (fs : List Field) → fields_of (columns_from i fs []) ≡ fs
empty_fields i [] = refl
empty_fields i (f ∷ fs) = ap (λ (t : List Field). f ∷ t) (empty_fields (i + 1) fs)

-- chunks that fit a schema fit below its frame without rows
pub fit_below : (fs : List Field) (frame : FrameData) (cs ds : List DataChunk) → frame ≡ frame_of fs [] → IsPermutation cs ds
    → All (λ c. FitsSchema fs c.frame) cs → All (λ c. FitsSchema (fields_of frame.columns) c.frame) ds
fit_below fs frame cs ds is moved fit =
    let same : fields_of frame.columns ≡ fs = ap (λ (f : FrameData). fields_of f.columns) is ∙ empty_fields 0 fs in
    rw same (All-permutation (λ (c : DataChunk). FitsSchema fs c.frame) cs ds moved fit)

-- what is put below columns without a value has its own values alone, and no flag
first_columns : (i : ℕ) (fs : List Field) (ds : List ColumnData) → fields_of ds ≡ fs → map unsorted (appended_all ds (columns_from i fs [])) ≡ map unsorted ds
first_columns i [] [] e = refl
first_columns i (f ∷ fs) [] e = cc e
first_columns i [] (d ∷ ds) e = cc e
first_columns i (f ∷ fs) (d ∷ ds) e =
    let here : field_of d ≡ f = first_same (field_of d) f (fields_of ds) fs e in
    ap₂ (λ (g : Field) (t : List ColumnData). record { name = g.name; dtype = g.dtype; sorted = false; values = d.values } ∷ t) (sym here) (first_columns (i + 1) fs ds (cc e))

-- a flag below which something is put is cleared anyway
second_columns : (ds cs : List ColumnData) → map unsorted (appended_all ds (map unsorted cs)) ≡ map unsorted (appended_all ds cs)
second_columns [] [] = refl
second_columns [] (c ∷ cs) = ap (λ (t : List ColumnData). unsorted c ∷ t) (second_columns [] cs)
second_columns (d ∷ ds) [] = refl
second_columns (d ∷ ds) (c ∷ cs) = ap (λ (t : List ColumnData). record { name = c.name; dtype = c.dtype; sorted = false; values = c.values ++ d.values } ∷ t) (second_columns ds cs)

-- two frames below an empty one are one below the other
two_stacked : (fields : List Field) (f g : FrameData) → FitsSchema fields f → stacked (stacked (frame_of fields []) f) g ≡ stacked f g
two_stacked fields f g fit =
    let same : 0 + f.height ≡ f.height = omega arith in
    let first : stacked (frame_of fields []) f ≡ record { height = f.height; columns = map unsorted f.columns } =
    ap₂ (λ (n : ℕ) (cs : List ColumnData). record { height = n; columns = cs }) same (first_columns 0 fields f.columns fit) in
    ap (λ (x : FrameData). stacked x g) first ∙ ap (λ (cs : List ColumnData). record { height = f.height + g.height; columns = cs }) (second_columns g.columns f.columns)

-- what is gathered from a frame on
gathered_on : (f : FrameData) (cs : List DataChunk) → fold (λ before chunk. Some (with_frame_below before chunk.frame)) (Some f) cs ≡ Some (all_stacked f cs)
gathered_on f [] = refl
gathered_on f (c ∷ cs) = gathered_on (stacked f c.frame) cs

-- the frames of other than one chunk below an empty one are these frames joined
pub joined_in_room : (fields : List Field) (cs : List DataChunk) → All (λ c. FitsSchema fields c.frame) cs → (length cs ≡ 1 → ⊥)
    → all_stacked (frame_of fields []) cs ≡ joined_frames fields cs
joined_in_room fields [] fit some = refl
joined_in_room fields (c ∷ []) fit some = absurd (some refl)
joined_in_room fields (c ∷ d ∷ cs) fit some =
    let here : FitsSchema fields c.frame = All-head (λ (x : DataChunk). FitsSchema fields x.frame) c (d ∷ cs) fit in
    ap (λ (f : FrameData). all_stacked f cs) (two_stacked fields c.frame d.frame here) ∙ sym (ap (λ (o : Option FrameData). unwrap_or o (frame_of fields [])) (gathered_on (stacked c.frame d.frame) cs))

-- so are the frames of chunks that were put in another order
pub joined_in_order : (fs : List Field) (frame : FrameData) (cs ds : List DataChunk) → frame ≡ frame_of fs [] → IsPermutation cs ds
    → All (λ c. FitsSchema fs c.frame) cs → (length cs == 1) ≡ false → all_stacked frame ds ≡ joined_frames fs ds
joined_in_order fs frame cs ds is moved fit other =
    let many : length ds ≡ 1 → ⊥ = λ one. false-not-true (sym other ∙ eq-eqb (length cs) 1 (sym (length_permutation cs ds moved) ∙ one)) in
    ap (λ (f : FrameData). all_stacked f ds) is ∙ joined_in_room fs ds (All-permutation (λ (c : DataChunk). FitsSchema fs c.frame) cs ds moved fit) many
