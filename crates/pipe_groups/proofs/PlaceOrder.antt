-- Rows in the order of their places, and the frame of them.
use Rattle.std.proofs.Common.{◌≡◌, ◌∙◌, ℕ, zero, suc, ◌+◌, ◌<◌, Bool, true, false, Option, Some, unwrap_or, List, [], ◌∷◌, ◌++◌, length, map, get_or, refl, sym, ap, subst, arith, append_assoc, length-append}
use Rattle.std.specs.Cmp.Derive as derive
use Rattle.std.specs.List.{All, IsDistinct, position_from}
use Rattle.std.specs.List.Sorted.{IsPermutation, IsSorted}
use Rattle.std.specs.declared.cmp.Ordering.{Ordering}
use Rattle.std.specs.Ordering.{eq_by_cmp, is_eq, nat_cmp, ordering_then}
use Rattle.std.specs.Cmp.{IsTotalOrder}
use Rattle.std.proofs.lemmas.Bool.{and_parts, eq-eqb}
use Rattle.std.proofs.lemmas.Cmp.{eq_by_cmp_equiv, nat_cmp_total, on_total, then_total}
use Rattle.std.proofs.lemmas.List.{length-map, map-append}
use Rattle.std.proofs.lemmas.List.Elements.{All-head, All-tail}
use Rattle.std.proofs.lemmas.List.Sorted.{All-permutation, IsPermutation-map}
use Rattle.std.proofs.lemmas.Map.Keys.{apart_from_distinct, IsDistinct-IsPermutation, IsDistinct-tail}
use Rattle.std.proofs.lemmas.Iterator.Adapters.{position_from-zero}
use Rattle.std.proofs.lemmas.Simd.{map-map}
use Rattle.pipe_columns.specs.declared.any_value.AnyValue.{AnyValue}
use Rattle.pipe_columns.specs.declared.data_type.DataType.{DataType}
use Rattle.pipe_columns.specs.declared.place.Place.{Place}
use Rattle.pipe_columns.specs.AnyValue.{fits}
use Rattle.pipe_columns.specs.Frame.{all_fit, all_have_height, ColumnData, columns_from, fields_of, frame_of, FrameData, row_at, value_at}
use Rattle.pipe_columns.specs.Groups.{IsAscending, sorted_keys}
use Rattle.pipe_columns.specs.Place.{place_cmp}
use Rattle.pipe_columns.specs.Slice.{sliced}
use Rattle.pipe_model.proofs.PlaceFacts.{place_tie, place_total}
use Rattle.pipe_groups.specs.declared.place_order.PlacedRow.{PlacedRow}
use Rattle.pipe_groups.specs.Placed.{rows_by_place}
use Rattle.pipe_groups.specs.PlacedRanks.{IsRowAt, picked, place_at}
use Rattle.pipe_groups.proofs.AscentFacts.{ascending-sorted, sorted-ascend}
use Rattle.pipe_groups.proofs.ShapeFacts.{value-behind}
use Rattle.pipe_groups.proofs.SliceFacts.{sliced-map}

-- ---- positions

abbrev pub same_place : Place → Place → Bool
same_place = eq_by_cmp place_cmp

-- a place that stands apart is found where it stands
found-from : (places : List Place) (i k : ℕ) (d : Place) → IsDistinct same_place places → i < length places → position_from (same_place (get_or places i d)) k places ≡ Some (i + k)
found-from [] i k d apart lt = absurd (omega arith)
found-from (p ∷ ps) zero k d apart lt =
    let own : same_place p p ≡ true = (eq_by_cmp_equiv place_total).refl p in
    let at : k ≡ 0 + k = omega arith in
    rw own (ap (λ (n : ℕ). Some n) at)
found-from (p ∷ ps) (suc i) k d apart lt =
    let far : same_place p (get_or ps i d) ≡ false = apart_from_distinct same_place (p ∷ ps) 0 (suc i) d apart (omega arith) (omega (arith, lt)) in
    let here : same_place (get_or ps i d) p ≡ false = (eq_by_cmp_equiv place_total).symm (get_or ps i d) p ∙ far in
    let at : i + (k + 1) ≡ suc i + k = omega arith in
    rw here (found-from ps i (k + 1) d (IsDistinct-tail same_place p ps apart) (omega (arith, lt)) ∙ ap (λ (n : ℕ). Some n) at)

pub place-found : (places : List Place) (i : ℕ) (d : Place) → IsDistinct same_place places → i < length places → place_at places (get_or places i d) ≡ i
place-found places i d apart lt =
    let at : i + 0 ≡ i = omega arith in
    ap (λ (o : Option ℕ). unwrap_or o 0) (position_from-zero (same_place (get_or places i d)) places ∙ found-from places i 0 d apart lt ∙ ap (λ (n : ℕ). Some n) at)

-- ---- sorted rows

abbrev pub row_place : PlacedRow → Place
row_place r = r.place

abbrev pub row_number : PlacedRow → ℕ
row_number r = r.row

-- by place, then by number
abbrev pub row_cmp : PlacedRow → PlacedRow → Ordering
row_cmp r s = ordering_then (place_cmp r.place s.place) (nat_cmp r.row s.row)

pub row_total : IsTotalOrder row_cmp
row_total = then_total (on_total row_place place_total) (on_total row_number nat_cmp_total)

numbers-found : (places : List Place) (rows : List PlacedRow) → IsDistinct same_place places → All (IsRowAt places) rows → map row_number rows ≡ map (place_at places) (map row_place rows)
numbers-found places [] apart h = refl
numbers-found places (r ∷ rs) apart h =
    let own = All-head (IsRowAt places) r rs h in
    let here : place_at places r.place ≡ r.row = ap (place_at places) own.place ∙ place-found places r.row r.place apart own.within in
    rw (here, numbers-found places rs apart (All-tail (IsRowAt places) r rs h)) refl

module _ (places : List Place) (apart : IsDistinct same_place places) (before after : List PlacedRow) (are : map row_place before ≡ places) (each : All (IsRowAt places) before)
    (moved : IsPermutation before after) (sorted : IsSorted row_cmp after) where
  rows-each : All (IsRowAt places) after
  rows-each = All-permutation (IsRowAt places) before after moved each

  places-moved : IsPermutation places (map row_place after)
  places-moved = subst (λ (ps : List Place). IsPermutation ps (map row_place after)) are (IsPermutation-map row_place before after moved)

  places-ascend : IsAscending place_cmp (map row_place after)
  places-ascend = sorted-ascend row_place place_cmp place_total same_place (λ p q e. ap is_eq e) row_cmp row_total (λ r s. nat_cmp r.row s.row) (IsRowAt places) (λ r s h k. refl)
      after rows-each sorted (IsDistinct-IsPermutation same_place (eq_by_cmp_equiv place_total).symm places (map row_place after) places-moved apart)

  -- the numbers of rows that were sorted by place
  pub numbers-in_order : map row_number after ≡ map (place_at places) (sorted_keys place_cmp places)
  numbers-in_order =
      numbers-found places after apart rows-each
      ∙ ap (map (place_at places)) (ascending-sorted place_cmp place_total place_tie places (map row_place after) places-moved places-ascend)

-- ---- rows of a frame

-- a value of a row
row-value : (front : List ColumnData) (c : ColumnData) (cs : List ColumnData) (k j : ℕ) → j ≡ length front → value_at (row_at (front ++ c ∷ cs) k) j ≡ value_at c.values k
row-value front c cs k j e =
    let cell : ColumnData → AnyValue = λ x. value_at x.values k in
    let at : j ≡ length (map cell front) = e ∙ sym (length-map front cell) in
    ap (λ (row : List AnyValue). value_at row j) (map-append cell front (c ∷ cs)) ∙ ap (value_at (map cell front ++ cell c ∷ map cell cs)) at ∙ value-behind (map cell front) (cell c) (map cell cs)

column-values : (front : List ColumnData) (c : ColumnData) (cs : List ColumnData) (rows : List ℕ) (j : ℕ) → j ≡ length front
    → map (λ row. value_at row j) (map (row_at (front ++ c ∷ cs)) rows) ≡ map (λ k. value_at c.values k) rows
column-values front c cs [] j e = refl
column-values front c cs (k ∷ ks) j e = rw (row-value front c cs k j e, column-values front c cs ks j e) refl

columns-behind : (front cs : List ColumnData) (rows : List ℕ) (j : ℕ) → j ≡ length front → columns_from j (fields_of cs) (map (row_at (front ++ cs)) rows) ≡ map (picked rows) cs
columns-behind front [] rows j e = refl
columns-behind front (c ∷ cs) rows j e =
    let split : front ++ c ∷ cs ≡ (front ++ c ∷ []) ++ cs = sym (append_assoc front (c ∷ []) cs) in
    let rest : columns_from (j + 1) (fields_of cs) (map (row_at (front ++ c ∷ cs)) rows) ≡ map (picked rows) cs =
    ap (λ (all : List ColumnData). columns_from (j + 1) (fields_of cs) (map (row_at all) rows)) split
    ∙ columns-behind (front ++ c ∷ []) cs rows (j + 1) (omega (arith, e, length-append front (c ∷ []))) in
    rw (column-values front c cs rows j e, rest) refl

-- the columns of some rows of a frame
pub columns-picked : (cs : List ColumnData) (rows : List ℕ) → columns_from 0 (fields_of cs) (map (row_at cs) rows) ≡ map (picked rows) cs
columns-picked cs rows = columns-behind [] cs rows 0 refl

-- they have a value a row
pub picked-high : (cs : List ColumnData) (rows : List ℕ) → all_have_height (length rows) (map (picked rows) cs) ≡ true
picked-high [] rows = refl
picked-high (c ∷ cs) rows =
    derive.both_true (eq-eqb (length (map (λ k. value_at c.values k) rows)) (length rows) (length-map rows (λ k. value_at c.values k))) (picked-high cs rows)

-- a value of a column fits its type, also past the last
value-fits : (t : DataType) (values : List AnyValue) (i : ℕ) → all_fit t values ≡ true → fits (value_at values i) t ≡ true
value-fits t [] i h = refl
value-fits t (v ∷ vs) zero h = (and_parts (fits v t) (all_fit t vs) h).0
value-fits t (v ∷ vs) (suc i) h = value-fits t vs i (and_parts (fits v t) (all_fit t vs) h).1

-- so do those of some rows
pub picked-fit : (t : DataType) (values : List AnyValue) (rows : List ℕ) → all_fit t values ≡ true → all_fit t (map (λ i. value_at values i) rows) ≡ true
picked-fit t values [] h = refl
picked-fit t values (i ∷ is) h = derive.both_true (value-fits t values i h) (picked-fit t values is h)

-- the frame of the rows that a slice takes, in the order of their places
pub rows-in_order : (places : List Place) (frame : FrameData) (slice : Option (ℕ × ℕ)) (rows : List ℕ)
    → rows ≡ sliced slice (map (place_at places) (sorted_keys place_cmp places))
    → record { height = length rows; columns = map (picked rows) frame.columns } ≡ frame_of (fields_of frame.columns) (sliced slice (rows_by_place places frame))
rows-in_order places frame slice rows e =
    let at : ℕ → List AnyValue = row_at frame.columns in
    let all : map at rows ≡ sliced slice (rows_by_place places frame) =
    ap (map at) e ∙ sliced-map at slice (map (place_at places) (sorted_keys place_cmp places)) ∙ ap (sliced slice) (map-map at (place_at places) (sorted_keys place_cmp places)) in
    ap (λ (cs : List ColumnData). record { height = length rows; columns = cs }) (sym (columns-picked frame.columns rows))
    ∙ ap (λ (n : ℕ). record { height = n; columns = columns_from 0 (fields_of frame.columns) (map at rows) }) (sym (length-map rows at))
    ∙ ap (frame_of (fields_of frame.columns)) all
