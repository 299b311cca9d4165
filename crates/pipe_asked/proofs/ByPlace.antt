-- Placed groups of all partitions below one another, and in the order of their places.
use Rattle.std.proofs.Common.{◌≡◌, ◌∙◌, ◌+◌, ◌<◌, ◌==◌, ◌&&◌, ℕ, suc, Bool, true, List, [], ◌∷◌, ◌++◌, length, map, fold, refl, sym, ap, subst, arith, append_assoc, length-append, Option}
use Rattle.std.specs.List.{All, flat_map, IsDistinct, range_with_len, slice_index_or}
use Rattle.std.specs.Ordering.{eq_by_cmp}
use Rattle.std.proofs.lemmas.Grind.{flat_map-append}
use Rattle.std.proofs.lemmas.List.{append-nil}
use Rattle.std.proofs.lemmas.List.Elements.{All-head, All-tail}
use Rattle.pipe_columns.specs.declared.any_value.AnyValue.{AnyValue}
use Rattle.pipe_columns.specs.declared.place.Place.{Place}
use Rattle.pipe_columns.specs.declared.schema.Field.{Field}
use Rattle.pipe_columns.specs.Frame.{all_have_height, appended_all, ColumnData, field_of, fields_of, FitsSchema, frame_of, FrameData, sliced_column, stacked, unsorted}
use Rattle.pipe_columns.specs.Place.{place_cmp}
use Rattle.pipe_columns.specs.Row.{Row}
use Rattle.pipe_columns.specs.Slice.{sliced}
use Rattle.pipe_inputs.specs.RowTypes.{IsRowOf}
use Rattle.pipe_model.specs.Answer.{answer_row, groups}
use Rattle.pipe_model.specs.Output.{output_schema}
use Rattle.pipe_model.specs.Partitions.{groups_in}
use Rattle.pipe_model.specs.Query.{QueryTree}
use Rattle.pipe_model.specs.Rows.{HaveDistinctPlaces}
use Rattle.pipe_groups.specs.declared.placed_groups.PlacedGroups.{PlacedGroups}
use Rattle.pipe_groups.specs.Placed.{rows_by_place}
use Rattle.pipe_groups.specs.QueryRows.{ArePlacedRows}
use Rattle.pipe_groups.proofs.AnswerFacts.{sliced-map}
use Rattle.pipe_groups.proofs.ByPlaceFacts.{placed-apart, placed-rows}
use Rattle.pipe_groups.proofs.FrameRows.{frame-fields}
use Rattle.pipe_groups.proofs.PartsFacts.{parts-once, parts-same, placed-joined}
use Rattle.pipe_asked.specs.Given.{frame_of_keys}
use Rattle.pipe_asked.specs.Sources.{ArePlacedParts, IsPlacedFrame}
use Rattle.pipe_asked.specs.Stacking.{all_firsts, all_frames}

-- ---- frames below one another

-- a frame keeps its columns where others come below
pub stacked-fields : (ds cs : List ColumnData) → fields_of (map unsorted (appended_all ds cs)) ≡ fields_of cs
stacked-fields [] [] = refl
stacked-fields [] (c ∷ cs) = ap (λ (l : List Field). field_of c ∷ l) (stacked-fields [] cs)
stacked-fields (d ∷ ds) [] = refl
stacked-fields (d ∷ ds) (c ∷ cs) = ap (λ (l : List Field). field_of c ∷ l) (stacked-fields ds cs)

-- flags are no part of them
pub unsorted-fields : (cs : List ColumnData) → fields_of (map unsorted cs) ≡ fields_of cs
unsorted-fields [] = refl
unsorted-fields (c ∷ cs) = ap (λ (l : List Field). field_of c ∷ l) (unsorted-fields cs)

-- and neither is their height
pub unsorted-high : (n : ℕ) (cs : List ColumnData) → all_have_height n (map unsorted cs) ≡ all_have_height n cs
unsorted-high n [] = refl
unsorted-high n (c ∷ cs) = ap (λ (b : Bool). (length c.values == n) && b) (unsorted-high n cs)

-- a slice keeps the columns
pub sliced-fields : (offset len : ℕ) (cs : List ColumnData) → fields_of (map (sliced_column offset len) cs) ≡ fields_of cs
sliced-fields offset len [] = refl
sliced-fields offset len (c ∷ cs) = ap (λ (l : List Field). field_of c ∷ l) (sliced-fields offset len cs)

unsorted-below : (ds cs : List ColumnData) → appended_all (map unsorted ds) cs ≡ appended_all ds cs
unsorted-below [] cs = refl
unsorted-below (d ∷ ds) [] = refl
unsorted-below (d ∷ ds) (c ∷ cs) = ap (λ (l : List ColumnData). record c { values = c.values ++ d.values } ∷ l) (unsorted-below ds cs)

-- a copy comes below as the frame does
pub copy-below : (f g : FrameData) → stacked f (record { height = g.height; columns = map unsorted g.columns }) ≡ stacked f g
copy-below f g = ap (λ (l : List ColumnData). record { height = f.height + g.height; columns = map unsorted l }) (unsorted-below g.columns f.columns)

-- one more below others
frames-push : (f : FrameData) (gs : List PlacedGroups) (g : PlacedGroups) → fold (λ f g. stacked f g.frame) f (gs ++ g ∷ []) ≡ stacked (fold (λ f g. stacked f g.frame) f gs) g.frame
frames-push f [] g = refl
frames-push f (x ∷ gs) g = frames-push (stacked f x.frame) gs g

pub all_frames-push : (fields : List Field) (gs : List PlacedGroups) (g : PlacedGroups) → all_frames fields (gs ++ g ∷ []) ≡ stacked (all_frames fields gs) g.frame
all_frames-push fields gs g = frames-push (frame_of fields []) gs g

pub all_firsts-push : (gs : List PlacedGroups) (g : PlacedGroups) → all_firsts (gs ++ g ∷ []) ≡ all_firsts gs ++ g.firsts
all_firsts-push gs g = flat_map-append (λ (x : PlacedGroups). x.firsts) gs (g ∷ []) ∙ ap (λ (l : List Place). all_firsts gs ++ l) (append-nil g.firsts)

-- all of them have the columns, and a place for each row
frames-from : (q : QueryTree) (f : FrameData) (firsts : List Place) (gs : List PlacedGroups) → FitsSchema (output_schema q) f → length firsts ≡ f.height → All (IsPlacedFrame q) gs
    → IsPlacedFrame q (record { frame = fold (λ f g. stacked f g.frame) f gs; firsts = firsts ++ all_firsts gs })
frames-from q f firsts [] fit long all = record { fields = fit; places = ap (λ (l : List Place). length l) (append-nil firsts) ∙ long }
frames-from q f firsts (g ∷ gs) fit long all =
    let own = All-head (IsPlacedFrame q) g gs all in
    let rest = frames-from q (stacked f g.frame) (firsts ++ g.firsts) gs (stacked-fields g.frame.columns f.columns ∙ fit) (length-append firsts g.firsts ∙ omega (arith, long, own.places)) (All-tail (IsPlacedFrame q) g gs all) in
    record {
      fields = rest.fields;
      places = ap (λ (l : List Place). length l) (sym (append_assoc firsts g.firsts (all_firsts gs))) ∙ rest.places;
    }

pub all-frames : (q : QueryTree) (gs : List PlacedGroups) → All (IsPlacedFrame q) gs → IsPlacedFrame q (record { frame = all_frames (output_schema q) gs; firsts = all_firsts gs })
all-frames q gs all = frames-from q (frame_of (output_schema q) []) [] gs (frame-fields 0 (output_schema q) []) refl all

-- ---- over rows

-- those of further partitions below those of some keys
placed-below : (q : QueryTree) (rs : List Row) (n : ℕ) (keys : List (List AnyValue)) (f : FrameData) (firsts : List Place) (p : ℕ) (gs : List PlacedGroups) → ArePlacedRows q rs keys f firsts
    → ((i : ℕ) (d : PlacedGroups) → i < length gs → ArePlacedRows q rs (groups_in n q (p + i) rs) (slice_index_or gs i d).frame (slice_index_or gs i d).firsts)
    → ArePlacedRows q rs (keys ++ flat_map (λ k. groups_in n q k rs) (range_with_len p (length gs))) (fold (λ f g. stacked f g.frame) f gs) (firsts ++ all_firsts gs)
placed-below q rs n keys f firsts p [] are parts =
    subst (λ (ks : List (List AnyValue)). ArePlacedRows q rs ks f (firsts ++ [])) (sym (append-nil keys))
    (subst (ArePlacedRows q rs keys f) (sym (append-nil firsts)) are)
placed-below q rs n keys f firsts p (g ∷ gs) are parts =
    let own = subst (λ k. ArePlacedRows q rs (groups_in n q k rs) g.frame g.firsts) {x = p + 0} {y = p} (omega arith) (parts 0 g (omega arith)) in
    let more = placed-joined q rs keys (groups_in n q p rs) f g.frame firsts g.firsts are own in
    let rest = placed-below q rs n (keys ++ groups_in n q p rs) (stacked f g.frame) (firsts ++ g.firsts) (p + 1) gs more
    (λ i d lt. subst (λ k. ArePlacedRows q rs (groups_in n q k rs) (slice_index_or gs i d).frame (slice_index_or gs i d).firsts) {x = p + suc i} {y = p + 1 + i} (omega arith) (parts (suc i) d (omega (arith, lt)))) in
    subst (λ (ks : List (List AnyValue)). ArePlacedRows q rs ks (fold (λ f g. stacked f g.frame) f (g ∷ gs)) (firsts ++ all_firsts (g ∷ gs))) (append_assoc keys (groups_in n q p rs) (flat_map (λ k. groups_in n q k rs) (range_with_len (p + 1) (length gs))))
    (subst (ArePlacedRows q rs ((keys ++ groups_in n q p rs) ++ flat_map (λ k. groups_in n q k rs) (range_with_len (p + 1) (length gs))) (fold (λ f g. stacked f g.frame) f (g ∷ gs))) (append_assoc firsts g.firsts (all_firsts gs)) rest)

-- where order is kept, the number of partitions doesn't matter
kept-groups : (q : QueryTree) (rs : List Row) (n m : ℕ) → q.keeps_order ≡ true → groups rs q n ≡ groups rs q m
kept-groups q rs n m kept = rw kept refl

-- all of them below one another
pub placed-all : (q : QueryTree) (rs : List Row) (gs : List PlacedGroups) → ArePlacedParts q rs (length gs) gs
    → ArePlacedRows q rs (flat_map (λ k. groups_in (length gs) q k rs) (range_with_len 0 (length gs))) (all_frames (output_schema q) gs) (all_firsts gs)
placed-all q rs gs parts = placed-below q rs (length gs) [] (frame_of (output_schema q) []) [] 0 gs (record { frame_is = refl; firsts_are = refl }) (λ i d lt. subst (λ k. ArePlacedRows q rs (groups_in (length gs) q k rs) (slice_index_or gs i d).frame (slice_index_or gs i d).firsts) {x = i} {y = 0 + i} (omega arith) (parts i d lt))

module _ (q : QueryTree) (rs : List Row) (gs : List PlacedGroups) (some : 0 < length gs) (kept : q.keeps_order ≡ true) (apart : HaveDistinctPlaces rs) (typed : All (IsRowOf q) rs)
    (parts : ArePlacedParts q rs (length gs) gs) where
  abbrev keys : List (List AnyValue)
  keys = flat_map (λ k. groups_in (length gs) q k rs) (range_with_len 0 (length gs))

  all-placed : ArePlacedRows q rs keys (all_frames (output_schema q) gs) (all_firsts gs)
  all-placed = placed-all q rs gs parts

  -- no place of all partitions stands twice
  pub all-apart : IsDistinct (eq_by_cmp place_cmp) (all_firsts gs)
  all-apart = (placed-apart q rs apart keys (parts-same q rs (length gs) some) (all_frames (output_schema q) gs) (all_firsts gs) all-placed (parts-once q rs (length gs) some)).1

  -- and by place, under a slice, they are all groups
  pub all-by-place : (slice : Option (ℕ × ℕ)) (f : FrameData) → FitsSchema (output_schema q) (all_frames (output_schema q) gs)
      → f ≡ frame_of (fields_of (all_frames (output_schema q) gs).columns) (sliced slice (rows_by_place (all_firsts gs) (all_frames (output_schema q) gs)))
      → f ≡ frame_of_keys q rs slice (groups rs q (length gs))
  all-by-place slice f fit is =
      is
      ∙ ap (λ (fields : List Field). frame_of fields (sliced slice (rows_by_place (all_firsts gs) (all_frames (output_schema q) gs)))) fit
      ∙ ap (λ (rows : List (List AnyValue)). frame_of (output_schema q) (sliced slice rows))
      (placed-rows q rs apart keys (parts-same q rs (length gs) some) (all_frames (output_schema q) gs) (all_firsts gs) all-placed typed kept ∙ ap (map (answer_row q rs)) (kept-groups q rs 1 (length gs) kept))
      ∙ ap (frame_of (output_schema q)) (sliced-map (answer_row q rs) slice (groups rs q (length gs)))
