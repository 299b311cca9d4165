-- Groups that hold the rows of one partition, and placed rows of several.
use Rattle.std.proofs.Common.{◌≡◌, ◌∙◌, ℕ, ◌<◌, ◌+◌, ◌%◌, ◌==◌, Bool, true, false, cond, if◌then◌else◌, List, [], ◌∷◌, ◌++◌, map, Option, None, Some, option_map, refl, sym, ap, subst, arith, length-append}
use Rattle.std.specs.List.{All, AllByRecursion, filter, flat_map, IsDistinct, range_with_len}
use Rattle.std.specs.Str.{bytes_eq}
use Rattle.std.specs.Ordering.{eq_by_cmp}
use Rattle.std.proofs.lemmas.List.{map-append}
use Rattle.std.proofs.lemmas.List.Elements.{All-filter, All-head, All-tail}
use Rattle.pipe_columns.specs.declared.any_value.AnyValue.{AnyValue}
use Rattle.pipe_columns.specs.declared.place.Place.{Place}
use Rattle.pipe_columns.specs.declared.schema.Field.{Field}
use Rattle.pipe_columns.specs.Frame.{appended_all, ColumnData, columns_from, frame_of, FrameData, stacked, unsorted, value_at}
use Rattle.pipe_columns.specs.Groups.{HaveSameElements, sorted_keys}
use Rattle.pipe_columns.specs.Key.{fold_bytes, partition}
use Rattle.pipe_columns.specs.Place.{first_entry, place_cmp}
use Rattle.pipe_columns.specs.Row.{Row}
use Rattle.pipe_columns.specs.Slice.{sliced}
use Rattle.pipe_columns.proofs.AscendingFacts.{any_keys, AnyKey, exact_on, sorted_are, sorted-ascending}
use Rattle.pipe_inputs.specs.RowTypes.{IsRowOf}
use Rattle.pipe_model.specs.Answer.{answer_row, partition_cmp, rows_at, tuple_cmp}
use Rattle.pipe_model.specs.Output.{key_types, output_schema}
use Rattle.pipe_model.specs.Partitions.{groups_in, rows_in}
use Rattle.pipe_model.specs.Query.{QueryTree}
use Rattle.pipe_model.specs.Rows.{HaveDistinctPlaces}
use Rattle.pipe_model.proofs.KeyFacts.{partition-tie, partition-total}
use Rattle.pipe_model.proofs.PartFacts.{keys_at-part, rows_of-at, sorted_by_part}
use Rattle.pipe_model.proofs.PartitionFacts.{answer_row-in}
use Rattle.pipe_spill.specs.SpillRow.{spilled}
use Rattle.pipe_groups.specs.Given.{in_order, IsFrameOfGroups}
use Rattle.pipe_groups.specs.Groups.{Group, held_at, group_keys}
use Rattle.pipe_groups.specs.QueryRows.{ArePlaced, ArePlacedRows, HoldRowsOf}
use Rattle.pipe_groups.specs.Shape.{shape_of}
use Rattle.pipe_groups.proofs.AnswerFacts.{held-answer, sliced-holds, tuples_of}
use Rattle.pipe_groups.proofs.ByPlaceFacts.{ascending-once, held-placed}
use Rattle.pipe_groups.proofs.HoldFacts.{holds-part}

-- functions that agree on the elements of a list give the same images
pub map-same : {X Y : Type 0} (P : X → Type 0) (f g : X → Y) → ((x : X) → P x → f x ≡ g x) → (xs : List X) → All P xs → map f xs ≡ map g xs
map-same P f g same [] h = refl
map-same P f g same (x ∷ xs) h = let one = same x (All-head P x xs h) in let rest = map-same P f g same xs (All-tail P x xs h) in λ i. one i ∷ rest i

-- ---- rows that pass

-- a place that none of the rows has, none of those that pass has
apart-filter : (t : Row → Bool) (p : Place) (rs : List Row) → AllByRecursion (λ q. eq_by_cmp place_cmp p q ≡ false) (map (λ r. r.place) rs)
    → AllByRecursion (λ q. eq_by_cmp place_cmp p q ≡ false) (map (λ r. r.place) (filter t rs))
apart-filter t p [] h = tt
apart-filter t p (r ∷ rs) h = by (t r) (apart-filter t p rs h.1) where
  by : (b : Bool) → AllByRecursion (λ q. eq_by_cmp place_cmp p q ≡ false) (map (λ r. r.place) (filter t rs))
      → AllByRecursion (λ q. eq_by_cmp place_cmp p q ≡ false) (map (λ r. r.place) (cond b (r ∷ filter t rs) (filter t rs)))
  by true rest = (h.0, rest)
  by false rest = rest

-- where no place stands twice none does among the rows that pass
distinct-filter : (t : Row → Bool) (rs : List Row) → HaveDistinctPlaces rs → HaveDistinctPlaces (filter t rs)
unfolding IsDistinct
distinct-filter t [] d = tt
distinct-filter t (r ∷ rs) d = by (t r) (distinct-filter t rs d.1) where
  by : (b : Bool) → HaveDistinctPlaces (filter t rs) → HaveDistinctPlaces (cond b (r ∷ filter t rs) (filter t rs))
  by true rest = (apart-filter t r.place rs d.0, rest)
  by false rest = rest

module _ (q : QueryTree) (partitions p : ℕ) where
  -- the partition of a key
  abbrev part_of : List AnyValue → ℕ
  part_of key = partition partitions (key_types q) key

  -- whether a key's code lies in the partition
  abbrev lies : List ℕ → Bool
  lies k = fold_bytes k % partitions == p

  -- the rows that are spilled and lie there are those of the partition
  filter-spilled : (rs : List Row) → filter (λ r. lies r.key) (map (spilled (key_types q)) rs) ≡ map (spilled (key_types q)) (rows_in partitions q p rs)
  filter-spilled [] = refl
  filter-spilled (r ∷ rs) = by (part_of r.key == p) (filter-spilled rs) where
    by : (b : Bool) → filter (λ r. lies r.key) (map (spilled (key_types q)) rs) ≡ map (spilled (key_types q)) (rows_in partitions q p rs)
        → cond b (spilled (key_types q) r ∷ filter (λ r. lies r.key) (map (spilled (key_types q)) rs)) (filter (λ r. lies r.key) (map (spilled (key_types q)) rs))
        ≡ map (spilled (key_types q)) (cond b (r ∷ rows_in partitions q p rs) (rows_in partitions q p rs))
    by true rest = ap (λ l. spilled (key_types q) r ∷ l) rest
    by false rest = rest

  -- groups in which the keys of the partition alone are held hold its rows
  pub part-holds : (rs : List Row) (gs part : List Group) → HoldRowsOf q gs rs → IsDistinct bytes_eq (group_keys part)
      → ((k : List ℕ) → held_at k part ≡ (if fold_bytes k % partitions == p then held_at k gs else None)) → HoldRowsOf q part (rows_in partitions q p rs)
  part-holds rs gs part h apart same = record {
    groupable = h.groupable;
    typed = All-filter (λ r. part_of r.key == p) (IsRowOf q) rs h.typed;
    apart = apart;
    holds = rw (sym (filter-spilled rs)) (holds-part lies _ gs part (map (spilled (key_types q)) rs) same h.holds);
  }

  module _ (rs : List Row) (gs : List Group) (h : HoldRowsOf q gs (rows_in partitions q p rs)) (distinct : HaveDistinctPlaces rs) where
    own : HaveDistinctPlaces (rows_in partitions q p rs)
    own = distinct-filter (λ r. part_of r.key == p) rs distinct

    there : All (λ k. part_of k ≡ p) (groups_in partitions q p rs)
    there = keys_at-part part_of rs p

    -- a frame of the partition's groups has their rows of the answer
    pub part-answer : (slice : Option (ℕ × ℕ)) (f : FrameData) → IsFrameOfGroups (shape_of q) (sliced slice (in_order gs)) f
        → f ≡ frame_of (output_schema q) (map (answer_row q rs) (sliced slice (groups_in partitions q p rs)))
    part-answer slice f is =
        held-answer q (rows_in partitions q p rs) gs slice f h own is
        ∙ ap (frame_of (output_schema q)) (map-same (λ k. part_of k ≡ p) (answer_row q (rows_in partitions q p rs)) (answer_row q rs) (λ k e. answer_row-in rs q partitions p k e)
        (sliced slice (groups_in partitions q p rs)) (sliced-holds (λ k. part_of k ≡ p) slice (groups_in partitions q p rs) there))

    -- and with first places it is placed rows of its keys
    pub part-placed : (frame : FrameData) (firsts : List Place) → ArePlaced (shape_of q) gs frame firsts → ArePlacedRows q rs (groups_in partitions q p rs) frame firsts
    part-placed frame firsts placed =
        let least : List Row → List AnyValue → Option Place = λ rows k. option_map (λ e. e.0) (first_entry (rows_at rows k)) in
        record {
          frame_is = part-answer None frame placed.frame_is;
          firsts_are = (held-placed q (rows_in partitions q p rs) gs frame firsts h own placed).firsts_are
              ∙ map-same (λ k. part_of k ≡ p) (least (rows_in partitions q p rs)) (least rs) (λ k e. ap (λ (es : List (Place × List AnyValue)). option_map (λ e. e.0) (first_entry es)) (rows_of-at part_of p rs k e))
              (groups_in partitions q p rs) there;
        }

-- ---- several

-- columns of rows below others are those of all rows
stacked-columns : (j : ℕ) (fields : List Field) (xs ys : List (List AnyValue)) → map unsorted (appended_all (columns_from j fields ys) (columns_from j fields xs)) ≡ columns_from j fields (xs ++ ys)
stacked-columns j [] xs ys = refl
stacked-columns j (f ∷ fs) xs ys =
    let column : List AnyValue → ColumnData = λ values. record { name = f.name; dtype = f.dtype; sorted = false; values = values } in
    let here = ap column (sym (map-append (λ (row : List AnyValue). value_at row j) xs ys)) in
    let rest = stacked-columns (j + 1) fs xs ys in
    λ i. here i ∷ rest i

-- so is a frame
pub stacked-frame : (fields : List Field) (xs ys : List (List AnyValue)) → stacked (frame_of fields xs) (frame_of fields ys) ≡ frame_of fields (xs ++ ys)
stacked-frame fields xs ys =
    let height = sym (length-append xs ys) in
    let columns = stacked-columns 0 fields xs ys in
    λ i. record { height = height i; columns = columns i }

-- placed rows below others are placed rows of all their keys
pub placed-joined : (q : QueryTree) (rs : List Row) (keys others : List (List AnyValue)) (f g : FrameData) (firsts more : List Place) → ArePlacedRows q rs keys f firsts → ArePlacedRows q rs others g more
    → ArePlacedRows q rs (keys ++ others) (stacked f g) (firsts ++ more)
placed-joined q rs keys others f g firsts more x y =
    let least : List AnyValue → Option Place = λ k. option_map (λ e. e.0) (first_entry (rows_at rs k)) in
    record {
      frame_is = (λ i. stacked (x.frame_is i) (y.frame_is i)) ∙ stacked-frame (output_schema q) (map (answer_row q rs) keys) (map (answer_row q rs) others)
          ∙ ap (frame_of (output_schema q)) (sym (map-append (answer_row q rs) keys others));
      firsts_are = map-append (λ (p : Place). Some p) firsts more ∙ (λ i. x.firsts_are i ++ y.firsts_are i) ∙ sym (map-append least keys others);
    }

-- the keys of all partitions are those of the rows, and stand once
module _ (q : QueryTree) (rs : List Row) (partitions : ℕ) (some : 0 < partitions) where
  abbrev in_parts : List (List AnyValue)
  in_parts = flat_map (λ p. groups_in partitions q p rs) (range_with_len 0 partitions)

  parts-sorted : sorted_keys (partition_cmp partitions (key_types q)) (tuples_of rs) ≡ in_parts
  parts-sorted = sorted_by_part (λ k. partition partitions (key_types q) k) rs partitions (λ k. omega (arith, some))

  pub parts-same : HaveSameElements in_parts (tuples_of rs)
  parts-same =
      let total = partition-total partitions (key_types q) in
      subst (λ ks. HaveSameElements ks (tuples_of rs)) parts-sorted
      (sorted_are AnyKey (partition_cmp partitions (key_types q)) (exact_on (partition_cmp partitions (key_types q)) total (partition-tie partitions (key_types q))) (tuples_of rs) (any_keys (tuples_of rs))).same

  pub parts-once : IsDistinct (eq_by_cmp tuple_cmp) in_parts
  parts-once =
      let total = partition-total partitions (key_types q) in
      subst (IsDistinct (eq_by_cmp tuple_cmp)) parts-sorted
      (ascending-once (partition_cmp partitions (key_types q)) total (sorted_keys (partition_cmp partitions (key_types q)) (tuples_of rs)) (sorted-ascending (partition_cmp partitions (key_types q)) total (tuples_of rs)))
