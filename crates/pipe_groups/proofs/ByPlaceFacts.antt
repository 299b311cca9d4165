-- The rows of groups in the order of their first places are those of an answer that keeps order.
use Rattle.std.proofs.Common.{◌≡◌, ◌∙◌, inl, inr, ℕ, suc, ◌+◌, ◌<◌, Bool, true, false, List, [], ◌∷◌, length, map, get_or, Option, Some, None, option_map, unwrap_or, refl, sym, ap, subst, arith}
use Rattle.std.specs.Cmp.{Equal-is, IsTotalOrder, tied_itself}
use Rattle.std.specs.List.{All, IsDistinct, AllByRecursion, position, position_from}
use Rattle.std.specs.declared.cmp.Ordering.{Ordering}
use Rattle.std.specs.declared.cmp.Ordering.TheVariants.{Less, Equal}
use Rattle.std.specs.Ordering.{eq_by_cmp, is_eq}
use Rattle.std.proofs.lemmas.Iterator.Adapters.{position_from-zero}
use Rattle.std.proofs.lemmas.List.{get_or-map, length-map}
use Rattle.std.proofs.lemmas.List.Elements.{All-head, All-map, All-tail, All-weaker}
use Rattle.std.proofs.lemmas.Simd.{map-map}
use Rattle.pipe_columns.specs.declared.any_value.AnyValue.{AnyValue}
use Rattle.pipe_columns.specs.declared.place.Place.{Place}
use Rattle.pipe_columns.specs.Frame.{fields_of, frame_of, FrameData, row_at}
use Rattle.pipe_columns.specs.Groups.{HaveSameElements, IsAscending, sorted_keys}
use Rattle.pipe_columns.specs.Place.{first_entry, place_cmp}
use Rattle.pipe_columns.specs.Row.{Row}
use Rattle.pipe_columns.specs.Slice.{sliced}
use Rattle.pipe_columns.proofs.AscendingFacts.{any_keys, AnyKey, sorted_are, sorted_sole, sorted-ascending, sorted-from, sorted-has_on, sorted-holds}
use Rattle.pipe_columns.proofs.ElementFacts.{all_at, all_has, Has, has-same, same_elements, same-has}
use Rattle.pipe_columns.proofs.ValueOrder.{tuples_exact, tuples_tie, tuples_total}
use Rattle.pipe_inputs.specs.RowTypes.{IsRowOf}
use Rattle.pipe_model.specs.Answer.{answer_of, answer_row, first_place_cmp, groups, rows_at, tuple_cmp}
use Rattle.pipe_model.specs.Output.{key_types, output_schema}
use Rattle.pipe_model.specs.Query.{QueryTree}
use Rattle.pipe_model.specs.Rows.{HaveDistinctPlaces}
use Rattle.pipe_model.proofs.KeyFacts.{has_entry, least_place-exact}
use Rattle.pipe_model.proofs.PlaceFacts.{place_total}
use Rattle.pipe_spill.specs.KeyTypes.{AreOfTypes}
use Rattle.pipe_groups.specs.Groups.{Group}
use Rattle.pipe_groups.specs.Placed.{row_with, rows_by_place}
use Rattle.pipe_groups.specs.QueryRows.{ArePlaced, ArePlacedRows, HoldRowsOf}
use Rattle.pipe_groups.specs.Shape.{shape_of}
use Rattle.pipe_groups.proofs.AnswerFacts.{held-answer, held-firsts, sliced-map, tuples_of}
use Rattle.pipe_groups.proofs.CodedFacts.{sorted-image}
use Rattle.pipe_groups.proofs.FrameRows.{answer_row-length, frame-fields, row-frame}

-- a place that stands for none
abbrev no_place : Place
no_place = record { chunk = 0; row = 0 }

-- what stands under Some
unsome : (ps : List Place) → map (λ o. unwrap_or o no_place) (map Some ps) ≡ ps
unsome [] = refl
unsome (p ∷ ps) = ap (λ (l : List Place). p ∷ l) (unsome ps)

-- rows at distinct places, and their keys in whatever order
module _ (q : QueryTree) (rs : List Row) (distinct : HaveDistinctPlaces rs) (keys : List (List AnyValue)) (same : HaveSameElements keys (tuples_of rs)) where
  -- a key of the rows
  abbrev IsRowKey : List AnyValue → Type 0
  IsRowKey k = Has k (tuples_of rs)

  -- the order of keys by the least places of their rows
  abbrev by_least : List AnyValue → List AnyValue → Ordering
  by_least a b = first_place_cmp (first_entry (rows_at rs a)) (first_entry (rows_at rs b))

  -- the least place of a key's rows
  abbrev place_of : List AnyValue → Place
  place_of k = unwrap_or (option_map (λ e. e.0) (first_entry (rows_at rs k))) no_place

  -- the keys in the order of these
  abbrev by_place : List (List AnyValue)
  by_place = sorted_keys by_least (tuples_of rs)

  -- keys of rows are compared by their places
  places-alike : (a b : List AnyValue) → IsRowKey a → IsRowKey b → place_cmp (place_of a) (place_of b) ≡ by_least a b
  places-alike a b m n =
      let x = has_entry rs a m in
      let y = has_entry rs b n in
      rw (x.1, y.1) refl

  -- and are the same where these tie
  place-own : (a b : List AnyValue) → IsRowKey a → IsRowKey b → eq_by_cmp place_cmp (place_of a) (place_of b) ≡ true → a ≡ b
  place-own a b m n e = (least_place-exact rs distinct).exact a b m n (sym (places-alike a b m n) ∙ (Equal-is (place_cmp (place_of a) (place_of b))).0 e)

  keys-there : All IsRowKey keys
  keys-there = All-weaker (λ k. Has k keys) IsRowKey (same-has keys (tuples_of rs) same) keys (all_has keys)

  -- the keys sort by their places as those of the rows
  sorted-again : sorted_keys by_least keys ≡ by_place
  sorted-again =
      sorted_sole IsRowKey by_least (least_place-exact rs distinct) (tuples_of rs) (sorted_keys by_least keys) (all_has (tuples_of rs)) (record {
        ascending = (sorted_are IsRowKey by_least (least_place-exact rs distinct) keys keys-there).ascending;
        same = same_elements (sorted_keys by_least keys) (tuples_of rs)
            (λ k m. same-has keys (tuples_of rs) same k (sorted-from by_least k keys m))
            (λ k m. sorted-has_on IsRowKey by_least (least_place-exact rs distinct) k keys keys-there (has-same keys (tuples_of rs) same k m));
      })

  -- so the places of keys, sorted, are those of the keys in the order of their places
  places-sorted : sorted_keys place_cmp (map place_of keys) ≡ map place_of by_place
  places-sorted = sorted-image IsRowKey place_of by_least place_cmp places-alike keys keys-there ∙ ap (map place_of) sorted-again

  -- ---- the position of a place

  -- where a key stands among keys, its place stands among theirs
  record Stands (k : List AnyValue) (ks : List (List AnyValue)) : Type 0 where
    at : ℕ
    within : at < length ks
    key : get_or ks at [] ≡ k
    place : (i : ℕ) → position_from (λ p. eq_by_cmp place_cmp (place_of k) p) i (map place_of ks) ≡ Some (i + at)

  key-stands : (k : List AnyValue) (ks : List (List AnyValue)) → IsRowKey k → All IsRowKey ks → Has k ks → Stands k ks
  key-stands k [] own h m = absurd m
  key-stands k (x ∷ xs) own h m = by (eq_by_cmp place_cmp (place_of k) (place_of x)) refl m (key-stands k xs own (All-tail IsRowKey x xs h)) where
    by : (b : Bool) → eq_by_cmp place_cmp (place_of k) (place_of x) ≡ b → Has k (x ∷ xs) → (Has k xs → Stands k xs) → Stands k (x ∷ xs)
    by true e m next = record {
      at = 0;
      within = omega arith;
      key = sym (place-own k x own (All-head IsRowKey x xs h) e);
      place = λ i. rw e (ap Some (omega arith));
    }
    by false e (inl same) next =
        let itself : eq_by_cmp place_cmp (place_of k) (place_of x) ≡ true =
        ap (λ (y : List AnyValue). eq_by_cmp place_cmp (place_of k) (place_of y)) (sym same) ∙ ap is_eq (tied_itself place_total (place_of k)) in
        cc
    by false e (inr n) next =
        let rest = next n in
        record {
          at = suc rest.at;
          within = let lt = rest.within in omega arith;
          key = rest.key;
          place = λ i. rw e (rest.place (i + 1) ∙ ap Some (omega arith));
        }

  -- ---- the rows by place

  abbrev rows : List (List AnyValue)
  rows = map (answer_row q rs) keys

  -- the row at the position of a key's place is that of the key
  row-placed : All (λ r. AreOfTypes (key_types q) r.key) rs → (k : List AnyValue) → IsRowKey k → row_with (map place_of keys) (frame_of (output_schema q) rows) (place_of k) ≡ answer_row q rs k
  row-placed typed k m =
      let s = key-stands k keys m keys-there (has-same keys (tuples_of rs) same k m) in
      let found : position (λ p. eq_by_cmp place_cmp (place_of k) p) (map place_of keys) ≡ Some (0 + s.at) =
      position_from-zero (λ p. eq_by_cmp place_cmp (place_of k) p) (map place_of keys) ∙ s.place 0 in
      let at : unwrap_or (position (λ p. eq_by_cmp place_cmp (place_of k) p) (map place_of keys)) 0 ≡ s.at = ap (λ (o : Option ℕ). unwrap_or o 0) found ∙ (omega arith) in
      let lt = s.within in
      let row : get_or rows s.at [] ≡ answer_row q rs k = get_or-map (answer_row q rs) keys s.at [] [] s.within ∙ ap (answer_row q rs) s.key in
      let long : length (get_or rows s.at []) ≡ length (output_schema q) = ap (λ (r : List AnyValue). length r) row
      ∙ answer_row-length q rs k (all_at (AreOfTypes (key_types q)) (tuples_of rs) k (All-map (AreOfTypes (key_types q)) (λ (r : Row). r.key) rs typed) m) in
      ap (row_at (frame_of (output_schema q) rows).columns) at
      ∙ row-frame (output_schema q) rows s.at (omega (arith, lt, length-map keys (answer_row q rs))) long
      ∙ row

  rows-placed : All (λ r. AreOfTypes (key_types q) r.key) rs → (ks : List (List AnyValue)) → All IsRowKey ks → map (row_with (map place_of keys) (frame_of (output_schema q) rows)) (map place_of ks) ≡ map (answer_row q rs) ks
  rows-placed typed [] h = refl
  rows-placed typed (k ∷ ks) h =
      let here = row-placed typed k (All-head IsRowKey k ks h) in
      let rest = rows-placed typed ks (All-tail IsRowKey k ks h) in
      λ i. here i ∷ rest i

  -- rows by the least places of their keys
  pub by_place-rows : All (λ r. AreOfTypes (key_types q) r.key) rs → rows_by_place (map place_of keys) (frame_of (output_schema q) rows) ≡ map (answer_row q rs) by_place
  by_place-rows typed =
      ap (map (row_with (map place_of keys) (frame_of (output_schema q) rows))) places-sorted
      ∙ rows-placed typed by_place (sorted-holds IsRowKey by_least (tuples_of rs) (all_has (tuples_of rs)))

  -- ---- no place twice

  places-apart : (k : List AnyValue) (ks : List (List AnyValue)) → IsRowKey k → All IsRowKey ks → AllByRecursion (λ y. eq_by_cmp tuple_cmp k y ≡ false) ks
      → AllByRecursion (λ p. eq_by_cmp place_cmp (place_of k) p ≡ false) (map place_of ks)
  places-apart k [] own h b = tt
  places-apart k (x ∷ xs) own h b = (by (eq_by_cmp place_cmp (place_of k) (place_of x)) refl, places-apart k xs own (All-tail IsRowKey x xs h) b.1) where
    by : (t : Bool) → eq_by_cmp place_cmp (place_of k) (place_of x) ≡ t → eq_by_cmp place_cmp (place_of k) (place_of x) ≡ false
    by false e = e
    by true e =
        let own_key : k ≡ x = place-own k x own (All-head IsRowKey x xs h) e in
        let other : eq_by_cmp tuple_cmp k k ≡ false = ap (eq_by_cmp tuple_cmp k) own_key ∙ b.0 in
        let itself : eq_by_cmp tuple_cmp k k ≡ true = ap is_eq (tied_itself tuples_total k) in
        cc

  places-distinct : (ks : List (List AnyValue)) → All IsRowKey ks → IsDistinct (eq_by_cmp tuple_cmp) ks → IsDistinct (eq_by_cmp place_cmp) (map place_of ks)
  unfolding IsDistinct
  places-distinct [] h d = tt
  places-distinct (k ∷ ks) h d = (places-apart k ks (All-head IsRowKey k ks h) (All-tail IsRowKey k ks h) d.0, places-distinct ks (All-tail IsRowKey k ks h) d.1)

  -- ---- a frame of them

  module _ (frame : FrameData) (firsts : List Place) (placed : ArePlacedRows q rs keys frame firsts) where
    firsts-are : firsts ≡ map place_of keys
    firsts-are =
        let place : Option Place → Place = λ o. unwrap_or o no_place in
        sym (unsome firsts) ∙ ap (map place) placed.firsts_are ∙ map-map place (λ k. option_map (λ e. e.0) (first_entry (rows_at rs k))) keys

    -- there are as many places as rows, and where no key stands twice no place does
    pub placed-apart : IsDistinct (eq_by_cmp tuple_cmp) keys → (length firsts ≡ frame.height) × IsDistinct (eq_by_cmp place_cmp) firsts
    placed-apart once = (
      ap (λ (l : List Place). length l) firsts-are ∙ length-map keys place_of ∙ sym (length-map keys (answer_row q rs)) ∙ sym (ap (λ (f : FrameData). f.height) placed.frame_is),
      subst (IsDistinct (eq_by_cmp place_cmp)) (sym firsts-are) (places-distinct keys keys-there once),
    )

    module _ (typed : All (IsRowOf q) rs) (kept : q.keeps_order ≡ true) where
      -- the rows by place are those of the answer's groups
      pub placed-rows : rows_by_place firsts frame ≡ map (answer_row q rs) (groups rs q 1)
      placed-rows =
          (λ i. rows_by_place (firsts-are i) (placed.frame_is i))
          ∙ by_place-rows (All-weaker (IsRowOf q) (λ r. AreOfTypes (key_types q) r.key) (λ r t. t.key.fit) rs typed)
          ∙ rw kept refl

      -- so under the query's slice they are the answer
      pub placed-answer : (f : FrameData) → f ≡ frame_of (fields_of frame.columns) (sliced q.slice (rows_by_place firsts frame)) → f ≡ answer_of rs q 1
      placed-answer f e =
          let fields : fields_of frame.columns ≡ output_schema q = ap (λ (x : FrameData). fields_of x.columns) placed.frame_is ∙ frame-fields 0 (output_schema q) rows in
          e
          ∙ (λ i. frame_of (fields i) (sliced q.slice (placed-rows i)))
          ∙ ap (frame_of (output_schema q)) (sliced-map (answer_row q rs) q.slice (groups rs q 1))

-- ---- groups that hold rows

-- keys that ascend in an order stand once
pub ascending-once : (R : List AnyValue → List AnyValue → Ordering) → IsTotalOrder R → (ks : List (List AnyValue)) → IsAscending R ks → IsDistinct (eq_by_cmp tuple_cmp) ks
unfolding IsDistinct
ascending-once R o [] a = tt
ascending-once R o (k ∷ ks) a = (below-apart ks a.0, ascending-once R o ks a.1) where
  below-apart : (xs : List (List AnyValue)) → AllByRecursion (λ y. R k y ≡ Less) xs → AllByRecursion (λ y. eq_by_cmp tuple_cmp k y ≡ false) xs
  below-apart [] b = tt
  below-apart (x ∷ xs) b = (by (eq_by_cmp tuple_cmp k x) refl, below-apart xs b.1) where
    by : (t : Bool) → eq_by_cmp tuple_cmp k x ≡ t → eq_by_cmp tuple_cmp k x ≡ false
    by false e = e
    by true e =
        let own : k ≡ x = tuples_tie k x ((Equal-is (tuple_cmp k x)).0 e) in
        let less : R k k ≡ Less = ap (R k) own ∙ b.0 in
        let tie : R k k ≡ Equal = tied_itself o k in
        cc

-- the keys of rows in their order are those of the rows, and stand once
pub by_key-same : (rs : List Row) → HaveSameElements (sorted_keys tuple_cmp (tuples_of rs)) (tuples_of rs)
by_key-same rs = (sorted_are AnyKey tuple_cmp tuples_exact (tuples_of rs) (any_keys (tuples_of rs))).same

pub by_key-once : (rs : List Row) → IsDistinct (eq_by_cmp tuple_cmp) (sorted_keys tuple_cmp (tuples_of rs))
by_key-once rs = ascending-once tuple_cmp tuples_total (sorted_keys tuple_cmp (tuples_of rs)) (sorted-ascending tuple_cmp tuples_total (tuples_of rs))

-- groups in order, with a frame of them and their first places, are placed rows of their keys
pub held-placed : (q : QueryTree) (rs : List Row) (gs : List Group) (frame : FrameData) (firsts : List Place) → HoldRowsOf q gs rs → HaveDistinctPlaces rs → ArePlaced (shape_of q) gs frame firsts
    → ArePlacedRows q rs (sorted_keys tuple_cmp (tuples_of rs)) frame firsts
held-placed q rs gs frame firsts h distinct placed = record {
  frame_is = held-answer q rs gs None frame h distinct placed.frame_is;
  firsts_are = placed.firsts_are ∙ held-firsts q rs gs h;
}

module _ (q : QueryTree) (rs : List Row) (gs : List Group) (frame : FrameData) (firsts : List Place) (h : HoldRowsOf q gs rs) (distinct : HaveDistinctPlaces rs)
    (placed : ArePlaced (shape_of q) gs frame firsts) where
  abbrev sorted : List (List AnyValue)
  sorted = sorted_keys tuple_cmp (tuples_of rs)

  pub held-apart : (length firsts ≡ frame.height) × IsDistinct (eq_by_cmp place_cmp) firsts
  held-apart = placed-apart q rs distinct sorted (by_key-same rs) frame firsts (held-placed q rs gs frame firsts h distinct placed) (by_key-once rs)

  pub held-by_place : q.keeps_order ≡ true → (f : FrameData) → f ≡ frame_of (fields_of frame.columns) (sliced q.slice (rows_by_place firsts frame)) → f ≡ answer_of rs q 1
  held-by_place kept = placed-answer q rs distinct sorted (by_key-same rs) frame firsts (held-placed q rs gs frame firsts h distinct placed) h.typed kept
