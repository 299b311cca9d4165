-- The state rows of a query as rows of a frame, and back.
use Rattle.std.proofs.Common.{◌≡◌, ◌≢◌, ◌∙◌, ℕ, true, false, List, [], ◌∷◌, ◌++◌, map, length, take, drop, take-append-drop, append_assoc, refl, sym, ap, subst}
use Rattle.std.specs.Prelude.{All, Some, None}
use Rattle.std.specs.Int.{bytes_high_first}
use Rattle.std.proofs.lemmas.Bool.{false≢true}
use Rattle.std.proofs.lemmas.List.{drop_at}
use Rattle.std.proofs.lemmas.List.Elements.{All-drop, All-head, All-tail}
use Rattle.pipe_columns.specs.declared.any_value.AnyValue.{AnyValue}
use Rattle.pipe_columns.specs.declared.data_type.DataType.{DataType}
use Rattle.pipe_columns.specs.declared.data_type.DataType.TheVariants as dt
use Rattle.pipe_columns.specs.declared.place.Place.{Place}
use Rattle.pipe_columns.specs.AnyValue.{HasUtf8}
use Rattle.pipe_columns.specs.Frame.{value_at}
use Rattle.pipe_columns.specs.Key.{code}
use Rattle.pipe_aggs.specs.HashAggs.{prototypes}
use Rattle.pipe_model.specs.Aggregate.{counted}
use Rattle.pipe_model.specs.Groupable.{IsGroupable}
use Rattle.pipe_model.specs.Output.{key_types}
use Rattle.pipe_model.specs.Query.{QueryTree}
use Rattle.pipe_running.specs.declared.function.AggregateFunction.{AggregateFunction}
use Rattle.pipe_spill.specs.FrameBytes.{row_bytes}
use Rattle.pipe_spill.specs.KeyTypes.{AreOfTypes, IsCodeOfNone, IsTuple}
use Rattle.pipe_spill.specs.SpillRow.{IsRow}
use Rattle.pipe_spill.specs.declared.spill_row.SpillRow.{SpillRow}
use Rattle.pipe_spill.proofs.CodeOrder.{codes_injective}
use Rattle.pipe_states.specs.Fair.{IsRowOf}
use Rattle.pipe_states.specs.Forms.{all_give, all_result_types, all_saved, all_saved_types, restored_behind}
use Rattle.pipe_states.specs.StateText.{saved_aggs, saved_row, state_types}
use Rattle.pipe_states.specs.declared.state_row.StateRow.{StateRow}
use Rattle.pipe_states.proofs.Forms.{gives-are, result_types-are, saved-are, state_types-are}
use Rattle.pipe_states.proofs.Saved.{all_back, code_join, saved_again, split_typed}

-- counts that are the same as values are so
same_count : (m n : ℕ) → counted m ≡ counted n → m ≡ n
same_count m n e = cc

module _ (q : QueryTree) (g : IsGroupable q) where
  -- the results of a row have their types
  pub results_typed : (r : StateRow) → IsRowOf q r → AreOfTypes (all_result_types (prototypes q)) r.results
  results_typed r h = subst (λ (ts : List DataType). AreOfTypes ts r.results) (result_types-are q g) h.results.of_types

  -- the bytes of a row are those of its place and its key, of its counts, and of its results
  pub row_parts : (r : StateRow) (ts : List DataType) (fs : List AggregateFunction) → ts ≡ key_types q → fs ≡ prototypes q
      → ((bytes_high_first 4 r.first.chunk ++ bytes_high_first 4 r.first.row ++ bytes_high_first 8 (length (code ts r.key)) ++ code ts r.key)
      ++ code (dt.UInt32 ∷ dt.UInt32 ∷ dt.UInt32 ∷ []) (counted r.last.chunk ∷ counted r.last.row ∷ counted r.rows ∷ []))
      ++ code (all_saved_types fs) (all_saved fs r.results)
      ≡ row_bytes (state_types q) (saved_row q r)
  row_parts r ts fs t f =
      let key : List ℕ = code (key_types q) r.key in
      let counts : List DataType = dt.UInt32 ∷ dt.UInt32 ∷ dt.UInt32 ∷ [] in
      let three : List AnyValue = counted r.last.chunk ∷ counted r.last.row ∷ counted r.rows ∷ [] in
      let place : List ℕ → List ℕ = λ l. bytes_high_first 4 r.first.chunk ++ bytes_high_first 4 r.first.row ++ bytes_high_first 8 (length key) ++ l in
      let results : List ℕ = code (all_saved_types (prototypes q)) (all_saved (prototypes q) r.results) in
      let same : code counts three ++ results ≡ code (state_types q) (saved_row q r).values =
      sym (code_join counts (all_saved_types (prototypes q)) three (all_saved (prototypes q) r.results) refl)
      ∙ (λ i. code (sym (state_types-are q g) i) (three ++ sym (saved-are q g r.results) i)) in
      (λ i. ((bytes_high_first 4 r.first.chunk ++ bytes_high_first 4 r.first.row ++ bytes_high_first 8 (length (code (t i) r.key)) ++ code (t i) r.key) ++ code counts three)
      ++ code (all_saved_types (f i)) (all_saved (f i) r.results))
      ∙ append_assoc (place key) (code counts three) results
      ∙ ap (λ (l : List ℕ). place key ++ l) same

  -- values that a row may be saved as are three counts, and those of its results
  pub split_values : (vs : List AnyValue) → AreOfTypes (state_types q) vs
      → AreOfTypes (dt.UInt32 ∷ dt.UInt32 ∷ dt.UInt32 ∷ []) (take 3 vs) × AreOfTypes (all_saved_types (prototypes q)) (drop 3 vs)
  split_values vs h = split_typed (dt.UInt32 ∷ dt.UInt32 ∷ dt.UInt32 ∷ []) (all_saved_types (prototypes q)) vs
      (subst (λ (ts : List DataType). AreOfTypes ts vs) (state_types-are q g) h)

  -- results that come back of them have their types
  pub results_back : (vs results : List AnyValue) → AreOfTypes (state_types q) vs → restored_behind [] (prototypes q) (drop 3 vs) ≡ Some results
      → AreOfTypes (all_result_types (prototypes q)) results
  results_back vs results h e =
      let back = all_back (prototypes q) [] (drop 3 vs) results (split_values vs h).1 e in
      subst (AreOfTypes (all_result_types (prototypes q))) (sym back.is) back.typed

  -- the results that a row was saved of
  results_of : (row : SpillRow) (r : StateRow) → IsRowOf q r → saved_row q r ≡ row → restored_behind [] (prototypes q) (drop 3 row.values) ≡ Some r.results
  results_of row r h e =
      ap (λ (s : SpillRow). restored_behind [] (prototypes q) (drop 3 s.values)) (sym e)
      ∙ ap (restored_behind [] (prototypes q)) (saved-are q g r.results)
      ∙ saved_again (prototypes q) [] r.results (results_typed r h)

  module _ (row : SpillRow) where
    -- a key that is none
    pub other_key : IsCodeOfNone (key_types q) row.key → (r : StateRow) → IsRowOf q r → saved_row q r ≢ row
    other_key none r h e = none r.key h.key (ap (λ (s : SpillRow). s.key) e)

    -- values that begin with no three counts
    pub other_counts : ((chunk number rows : ℕ) → take 3 row.values ≢ counted chunk ∷ counted number ∷ counted rows ∷ []) → (r : StateRow) → IsRowOf q r → saved_row q r ≢ row
    other_counts none r h e = none r.last.chunk r.last.row r.rows (ap (λ (s : SpillRow). take 3 s.values) (sym e))

    -- values that no results were saved as
    pub other_results : restored_behind [] (prototypes q) (drop 3 row.values) ≡ None → (r : StateRow) → IsRowOf q r → saved_row q r ≢ row
    other_results none r h e = let some : restored_behind [] (prototypes q) (drop 3 row.values) ≡ Some r.results = results_of row r h e in cc

    -- the results of a row that can't be given
    pub other_given : (last : Place) (rows : ℕ) (results : List AnyValue) → take 3 row.values ≡ counted last.chunk ∷ counted last.row ∷ counted rows ∷ []
        → restored_behind [] (prototypes q) (drop 3 row.values) ≡ Some results → all_give (prototypes q) rows results ≡ false
        → (r : StateRow) → IsRowOf q r → saved_row q r ≢ row
    other_given last rows results counts some none r h e =
        let own : restored_behind [] (prototypes q) (drop 3 row.values) ≡ Some r.results = results_of row r h e in
        let same : r.results ≡ results = cc in
        let front : counted r.last.chunk ∷ counted r.last.row ∷ counted r.rows ∷ [] ≡ counted last.chunk ∷ counted last.row ∷ counted rows ∷ [] =
        ap (λ (s : SpillRow). take 3 s.values) e ∙ counts in
        let number : r.rows ≡ rows = same_count r.rows rows (ap (λ (vs : List AnyValue). value_at vs 2) front) in
        false≢true (sym none ∙ (λ i. all_give (prototypes q) (sym number i) (sym same i)) ∙ sym (gives-are q g r.rows r.results) ∙ h.given)

    -- a row of a state: its key, its greatest place, how many its rows are, and its results
    module _ (key : List AnyValue) (last : Place) (rows : ℕ) (results : List AnyValue)
        (is : IsRow (key_types q) (state_types q) row) (tuple : IsTuple (key_types q) key) (coded : code (key_types q) key ≡ row.key)
        (counts : take 3 row.values ≡ counted last.chunk ∷ counted last.row ∷ counted rows ∷ [])
        (some : restored_behind [] (prototypes q) (drop 3 row.values) ≡ Some results)
        (given : all_give (prototypes q) rows results ≡ true) where
      -- that row
      abbrev pub the_row : StateRow
      the_row = record { key = key; first = row.place; last = last; rows = rows; results = results }

      -- it is one of the query
      pub row_of_query : IsRowOf q the_row
      row_of_query =
          let back = all_back (prototypes q) [] (drop 3 row.values) results (split_values row.values is.inputs.of_types).1 some in
          let typed : AreOfTypes (all_result_types (prototypes q)) results = subst (AreOfTypes (all_result_types (prototypes q))) (sym back.is) back.typed in
          record {
            key = tuple;
            results = record {
              of_types = subst (λ (ts : List DataType). AreOfTypes ts results) (sym (result_types-are q g)) typed;
              utf8 = subst (All HasUtf8) (sym back.is) (back.utf8 (All-drop HasUtf8 3 row.values is.inputs.utf8));
            };
            given = gives-are q g rows results ∙ given;
          }

      -- and it is saved as the row
      pub row_again : saved_row q the_row ≡ row
      row_again =
          let back = all_back (prototypes q) [] (drop 3 row.values) results (split_values row.values is.inputs.of_types).1 some in
          let saved : saved_aggs 0 q.schema q.aggs results ≡ drop 3 row.values =
          saved-are q g results ∙ ap (all_saved (prototypes q)) back.is ∙ back.saved in
          let front : counted last.chunk ∷ counted last.row ∷ counted rows ∷ [] ≡ take 3 row.values = sym counts in
          let values : (saved_row q the_row).values ≡ row.values = (λ i. front i ++ saved i) ∙ take-append-drop 3 row.values in
          λ i. record { place = row.place; key = coded i; values = values i }

  -- rows that are saved alike are one
  pub same_row : (r s : StateRow) → IsRowOf q r → IsRowOf q s → saved_row q r ≡ saved_row q s → r ≡ s
  same_row r s h k e =
      let key : r.key ≡ s.key = codes_injective (key_types q) r.key s.key h.key.of_types k.key.of_types (ap (λ (x : SpillRow). x.key) e) in
      let place : r.first ≡ s.first = ap (λ (x : SpillRow). x.place) e in
      let front : counted r.last.chunk ∷ counted r.last.row ∷ counted r.rows ∷ [] ≡ counted s.last.chunk ∷ counted s.last.row ∷ counted s.rows ∷ [] =
      ap (λ (x : SpillRow). take 3 x.values) e in
      let chunk : r.last.chunk ≡ s.last.chunk = same_count r.last.chunk s.last.chunk (ap (λ (vs : List AnyValue). value_at vs 0) front) in
      let number : r.last.row ≡ s.last.row = same_count r.last.row s.last.row (ap (λ (vs : List AnyValue). value_at vs 1) front) in
      let rows : r.rows ≡ s.rows = same_count r.rows s.rows (ap (λ (vs : List AnyValue). value_at vs 2) front) in
      let own : restored_behind [] (prototypes q) (drop 3 (saved_row q s).values) ≡ Some r.results = results_of (saved_row q s) r h e in
      let other : restored_behind [] (prototypes q) (drop 3 (saved_row q s).values) ≡ Some s.results = results_of (saved_row q s) s k refl in
      let results : r.results ≡ s.results = cc in
      λ i. record {
        key = key i;
        first = place i;
        last = record { chunk = chunk i; row = number i };
        rows = rows i;
        results = results i;
      }

  -- so are lists of them
  pub same_rows : (rs ss : List StateRow) → All (IsRowOf q) rs → All (IsRowOf q) ss → map (saved_row q) rs ≡ map (saved_row q) ss → rs ≡ ss
  same_rows [] [] h k e = refl
  same_rows [] (s ∷ ss) h k e = absurd cc
  same_rows (r ∷ rs) [] h k e = absurd cc
  same_rows (r ∷ rs) (s ∷ ss) h k e =
      let one : saved_row q r ≡ saved_row q s = cc in
      let others : map (saved_row q) rs ≡ map (saved_row q) ss = cc in
      let first = same_row r s (All-head (IsRowOf q) r rs h) (All-head (IsRowOf q) s ss k) one in
      let rest = same_rows rs ss (All-tail (IsRowOf q) r rs h) (All-tail (IsRowOf q) s ss k) others in
      λ i. first i ∷ rest i

-- ---- one of many

-- what holds of all holds of one among them
pub among : {X : Type 0} (P : X → Type 0) (xs ys : List X) (y : X) → All P (xs ++ y ∷ ys) → P y
among P xs ys y h = All-head P y ys (subst (All P) (drop_at xs (y ∷ ys) (length xs) refl) (All-drop P (length xs) (xs ++ y ∷ ys) h))

-- an image among those of a list is that of one of it
pub source : {X Y : Type 0} (P : X → Type 0) (f : X → Y) (rs : List X) (xs ys : List Y) (y : Y) → All P rs → map f rs ≡ xs ++ y ∷ ys → (r : X) × P r × (f r ≡ y)
source P f [] [] ys y h e = absurd cc
source P f [] (x ∷ xs) ys y h e = absurd cc
source P f (r ∷ rs) [] ys y h e = (r, All-head P r rs h, let is : f r ≡ y = cc in is)
source P f (r ∷ rs) (x ∷ xs) ys y h e =
    let rest : map f rs ≡ xs ++ y ∷ ys = cc in
    source P f rs xs ys y (All-tail P r rs h) rest
