-- Fair states regrouped have fair rows, and fair states that follow on, merged, are a fair state.
use Rattle.std.proofs.Common.{◌≡◌, ◌∙◌, ℕ, ◌+◌, ◌<◌, ◌≤◌, ◌^◌, Bool, true, false, cond, ◌||◌, List, [], ◌∷◌, map, All, inl, inr, refl, sym, ap, subst, arith}
use Rattle.std.specs.Cmp.{Equal-is, tied_itself}
use Rattle.std.specs.List.{filter, IsDistinct, list_any, sum_by}
use Rattle.std.specs.Ordering.{eq_by_cmp, is_eq}
use Rattle.std.proofs.lemmas.Cmp.{upto}
use Rattle.std.proofs.lemmas.List.Elements.{All-cons, All-nil, All-weaker}
use Rattle.std.proofs.lemmas.List.Sums.{sum_by-cons}
use mathlib.Core.List.{map-map}
use Rattle.pipe_columns.specs.declared.any_value.AnyValue.{AnyValue}
use Rattle.pipe_columns.specs.declared.place.Place.{Place}
use Rattle.pipe_columns.specs.Groups.{IsAscending, sorted_keys}
use Rattle.pipe_columns.specs.Place.{place_cmp}
use Rattle.pipe_columns.proofs.AscendingFacts.{sorted-ascending, sorted-from}
use Rattle.pipe_columns.proofs.ElementFacts.{all_at, Has}
use Rattle.pipe_columns.proofs.ValueOrder.{tuples_tie, tuples_total}
use Rattle.pipe_model.specs.Answer.{tuple_cmp}
use Rattle.pipe_model.specs.Query.{QueryTree}
use Rattle.pipe_model.proofs.PlaceFacts.{place_total}
use Rattle.pipe_states.specs.Fair.{IsFair, IsFairRow, IsPlaceIn}
use Rattle.pipe_states.specs.Regrouped.{end_of, first_of, greatest_place, least_place, merged_states, regrouped_row, regrouped_rows, rows_of_states, rows_with}
use Rattle.pipe_states.specs.States.{StateSeen}
use Rattle.pipe_states.specs.Together.{FollowOn, total_rows}
use Rattle.pipe_states.specs.declared.state_row.StateRow.{StateRow}
use Rattle.pipe_states.proofs.PlaceChoice.{distinct_places, greatest-in, greatest-over, IsOf, least-in, least-under}
use Rattle.pipe_states.proofs.RangeFacts.{end-bound, follow-apart, Ordered, range-follows, rows-in_range, rows-total, states-distinct}
use Rattle.pipe_states.proofs.SplitFacts.{none_of}
use Rattle.pipe_states.proofs.TupleFacts.{has-image, image-of}

-- ---- what a filter keeps

-- what passes is there
pub from_filter : {X : Type 0} (p : X → Bool) (x : X) (xs : List X) → Has x (filter p xs) → Has x xs × (p x ≡ true)
from_filter p x [] m = absurd m
from_filter p x (y ∷ ys) m = by (p y) refl m (from_filter p x ys) where
  by : (b : Bool) → p y ≡ b → Has x (cond b (y ∷ filter p ys) (filter p ys)) → (Has x (filter p ys) → Has x ys × (p x ≡ true)) → Has x (y ∷ ys) × (p x ≡ true)
  by true e (inl s) next = (inl s, ap p s ∙ e)
  by true e (inr n) next = let rest = next n in (inr rest.0, rest.1)
  by false e n next = let rest = next n in (inr rest.0, rest.1)

-- and what is there and passes is kept
pub into_filter : {X : Type 0} (p : X → Bool) (x : X) (xs : List X) → Has x xs → p x ≡ true → Has x (filter p xs)
into_filter p x [] m e = absurd m
into_filter p x (y ∷ ys) m e = by (p y) refl m (λ n. into_filter p x ys n e) where
  by : (b : Bool) → p y ≡ b → Has x (y ∷ ys) → (Has x ys → Has x (filter p ys)) → Has x (cond b (y ∷ filter p ys) (filter p ys))
  by true f (inl s) next = inl s
  by true f (inr n) next = inr (next n)
  by false f (inl s) next = let g : p x ≡ p y = ap p s in cc
  by false f (inr n) next = next n

-- what holds of each element holds of all
pub all_each : {X : Type 0} (P : X → Type 0) (xs : List X) → ((x : X) → Has x xs → P x) → All P xs
all_each P [] h = All-nil P
all_each P (x ∷ xs) h = All-cons P x xs (h x (inl refl)) (all_each P xs (λ y m. h y (inr m)))

-- ---- sums over what filters keep

module _ {X : Type 0} (f : X → ℕ) where
  -- an element's number is part of the sum
  pub sum-has : (x : X) (xs : List X) → Has x xs → f x ≤ sum_by f xs
  sum-has x [] m = absurd m
  sum-has x (y ∷ ys) (inl e) = let one = sum_by-cons f y ys in let same = ap f e in omega arith
  sum-has x (y ∷ ys) (inr m) = let one = sum_by-cons f y ys in let rest = sum-has x ys m in omega arith

  -- what one more element adds where it passes
  sum-filter : (p : X → Bool) (x : X) (xs : List X) → sum_by f (filter p (x ∷ xs)) ≡ cond (p x) (f x) 0 + sum_by f (filter p xs)
  sum-filter p x xs = by (p x) where
    by : (b : Bool) → sum_by f (cond b (x ∷ filter p xs) (filter p xs)) ≡ cond b (f x) 0 + sum_by f (filter p xs)
    by true = sum_by-cons f x (filter p xs)
    by false = omega arith

  -- no filter adds anything
  pub sum-filter-le : (p : X → Bool) (xs : List X) → sum_by f (filter p xs) ≤ sum_by f xs
  sum-filter-le p [] = omega arith
  sum-filter-le p (x ∷ xs) =
      let one = sum-filter p x xs in
      let whole = sum_by-cons f x xs in
      let rest = sum-filter-le p xs in
      let here = at_most (p x) in
      omega arith
    where
      at_most : (b : Bool) → cond b (f x) 0 ≤ f x
      at_most true = omega arith
      at_most false = omega arith

  -- what passes either of two tests of which none passes both
  sum-either : (a b : X → Bool) (xs : List X) → ((x : X) → a x ≡ true → b x ≡ false) → sum_by f (filter a xs) + sum_by f (filter b xs) ≡ sum_by f (filter (λ x. a x || b x) xs)
  sum-either a b [] h = refl
  sum-either a b (x ∷ xs) h =
      let first = sum-filter a x xs in
      let second = sum-filter b x xs in
      let both = sum-filter (λ y. a y || b y) x xs in
      let rest = sum-either a b xs h in
      let one = by (a x) (b x) (h x) in
      omega arith
    where
      by : (p r : Bool) → (p ≡ true → r ≡ false) → cond p (f x) 0 + cond r (f x) 0 ≡ cond (p || r) (f x) 0
      by true true g = let e = g refl in cc
      by true false g = plus_zero (f x) where
        plus_zero : (n : ℕ) → n + 0 ≡ n
        plus_zero n = omega arith
      by false r g = zero_plus (cond r (f x) 0) where
        zero_plus : (n : ℕ) → 0 + n ≡ n
        zero_plus n = omega arith

  -- nothing passes a test that none passes
  sum-none : (xs : List X) → sum_by f (filter (λ x. false) xs) ≡ 0
  sum-none [] = refl
  sum-none (x ∷ xs) = sum-none xs

-- ---- regrouped rows

module _ (q : QueryTree) (part : List AnyValue → List AnyValue) (rows : List StateRow) where
  -- the tuples of which each is a part of a key
  abbrev tuples : List (List AnyValue)
  tuples = map (λ r. part r.key) rows

  -- the rows of a tuple
  abbrev found : List AnyValue → List StateRow
  found tuple = rows_with part tuple rows

  -- a row that a tuple has
  pub a_row : (tuple : List AnyValue) → Has tuple tuples → (r : StateRow) × Has r rows × Has r (found tuple)
  a_row tuple m =
      let one = image-of (λ (r : StateRow). part r.key) tuple rows m in
      let same : is_eq (tuple_cmp (part one.0.key) tuple) ≡ true = ap (λ (k : List AnyValue). is_eq (tuple_cmp k tuple)) (sym one.2) ∙ ap is_eq (tied_itself tuples_total tuple) in
      (one.0, one.1, into_filter (λ (r : StateRow). is_eq (tuple_cmp (part r.key) tuple)) one.0 rows one.1 same)

  -- a row of a tuple has it as a part of its key
  pub of_tuple : (tuple : List AnyValue) (r : StateRow) → Has r (found tuple) → Has r rows × (part r.key ≡ tuple)
  of_tuple tuple r m =
      let back = from_filter (λ (s : StateRow). is_eq (tuple_cmp (part s.key) tuple)) r rows m in
      (back.0, tuples_tie (part r.key) tuple ((Equal-is (tuple_cmp (part r.key) tuple)).0 back.1))

  module _ (first end : ℕ) (fair : All (IsFairRow first end) rows) where
    -- what holds of rows holds of those of a tuple
    fair_found : (tuple : List AnyValue) (r : StateRow) → Has r (found tuple) → IsFairRow first end r
    fair_found tuple r m = all_at (IsFairRow first end) rows r fair (of_tuple tuple r m).0

    -- what the rows of a tuple come to is fair
    pub regrouped-fair : (tuple : List AnyValue) → Has tuple tuples → IsFairRow first end (regrouped_row q tuple (found tuple))
    regrouped-fair tuple m =
        let one = a_row tuple m in
        let r : StateRow = one.0 in
        let here = fair_found tuple r one.2 in
        let firsts : List Place = map (λ s. s.first) (found tuple) in
        let lasts : List Place = map (λ s. s.last) (found tuple) in
        let first_there : Has r.first firsts = has-image (λ (s : StateRow). s.first) r (found tuple) one.2 in
        let last_there : Has r.last lasts = has-image (λ (s : StateRow). s.last) r (found tuple) one.2 in
        let least = image-of (λ (s : StateRow). s.first) (least_place firsts) (found tuple) (least-in r.first firsts first_there) in
        let greatest = image-of (λ (s : StateRow). s.last) (greatest_place lasts) (found tuple) (greatest-in r.last lasts last_there) in
        let some = here.some in
        let more = sum-has (λ (s : StateRow). s.rows) r (found tuple) one.2 in
        record {
          first_place = subst (IsPlaceIn first end) (sym least.2) (fair_found tuple least.0 least.1).first_place;
          last_place = subst (IsPlaceIn first end) (sym greatest.2) (fair_found tuple greatest.0 greatest.1).last_place;
          in_order =
              upto place_total (least_place firsts) r.first (greatest_place lasts) (least-under r.first firsts first_there)
              (upto place_total r.first r.last (greatest_place lasts) here.in_order (greatest-over r.last lasts last_there));
          some = omega arith;
        }

    -- so is each regrouped row
    pub regrouped_rows-fair : All (IsFairRow first end) (regrouped_rows q part rows)
    regrouped_rows-fair = each (sorted_keys tuple_cmp tuples) (λ t m. sorted-from tuple_cmp t tuples m) where
      each : (ts : List (List AnyValue)) → ((t : List AnyValue) → Has t ts → Has t tuples) → All (IsFairRow first end) (map (λ t. regrouped_row q t (found t)) ts)
      each [] h = All-nil (IsFairRow first end)
      each (t ∷ ts) h = All-cons (IsFairRow first end) (regrouped_row q t (found t)) (map (λ x. regrouped_row q x (found x)) ts) (regrouped-fair t (h t (inl refl))) (each ts (λ x m. h x (inr m)))

  -- the tuples of regrouped rows ascend
  pub regrouped-ascends : IsAscending tuple_cmp (map (λ r. r.key) (regrouped_rows q part rows))
  regrouped-ascends = subst (IsAscending tuple_cmp) (sym (keys (sorted_keys tuple_cmp tuples))) (sorted-ascending tuple_cmp tuples_total tuples) where
    keys : (ts : List (List AnyValue)) → map (λ r. r.key) (map (λ t. regrouped_row q t (found t)) ts) ≡ ts
    keys [] = refl
    keys (t ∷ ts) = ap (λ (l : List (List AnyValue)). t ∷ l) (keys ts)

  -- the least place of a tuple is that of one of its rows
  least-stands : (tuple : List AnyValue) → Has tuple tuples → IsOf (λ (r : StateRow). r.first) (λ (r : StateRow). part r.key) rows tuple (least_place (map (λ r. r.first) (found tuple)))
  least-stands tuple m =
      let one = a_row tuple m in
      let firsts : List Place = map (λ s. s.first) (found tuple) in
      let least = image-of (λ (s : StateRow). s.first) (least_place firsts) (found tuple) (least-in one.0.first firsts (has-image (λ (s : StateRow). s.first) one.0 (found tuple) one.2)) in
      let back = of_tuple tuple least.0 least.1 in
      record { element = least.0; within = back.0; key_is = back.1; place_is = sym least.2 }

  -- and the greatest that of one
  greatest-stands : (tuple : List AnyValue) → Has tuple tuples → IsOf (λ (r : StateRow). r.last) (λ (r : StateRow). part r.key) rows tuple (greatest_place (map (λ r. r.last) (found tuple)))
  greatest-stands tuple m =
      let one = a_row tuple m in
      let lasts : List Place = map (λ s. s.last) (found tuple) in
      let greatest = image-of (λ (s : StateRow). s.last) (greatest_place lasts) (found tuple) (greatest-in one.0.last lasts (has-image (λ (s : StateRow). s.last) one.0 (found tuple) one.2)) in
      let back = of_tuple tuple greatest.0 greatest.1 in
      record { element = greatest.0; within = back.0; key_is = back.1; place_is = sym greatest.2 }

  -- least places of regrouped rows differ where those of the rows do
  pub regrouped-firsts : IsDistinct (eq_by_cmp place_cmp) (map (λ r. r.first) rows) → IsDistinct (eq_by_cmp place_cmp) (map (λ r. r.first) (regrouped_rows q part rows))
  regrouped-firsts d =
      subst (IsDistinct (eq_by_cmp place_cmp)) (sym (map-map (λ (r : StateRow). r.first) (λ t. regrouped_row q t (found t)) (sorted_keys tuple_cmp tuples)))
      (distinct_places (λ (r : StateRow). r.first) (λ (r : StateRow). part r.key) rows d tuples (λ t. least_place (map (λ r. r.first) (found t))) least-stands
      (sorted_keys tuple_cmp tuples) (λ t m. sorted-from tuple_cmp t tuples m) (sorted-ascending tuple_cmp tuples_total tuples))

  -- and so do the greatest
  pub regrouped-lasts : IsDistinct (eq_by_cmp place_cmp) (map (λ r. r.last) rows) → IsDistinct (eq_by_cmp place_cmp) (map (λ r. r.last) (regrouped_rows q part rows))
  regrouped-lasts d =
      subst (IsDistinct (eq_by_cmp place_cmp)) (sym (map-map (λ (r : StateRow). r.last) (λ t. regrouped_row q t (found t)) (sorted_keys tuple_cmp tuples)))
      (distinct_places (λ (r : StateRow). r.last) (λ (r : StateRow). part r.key) rows d tuples (λ t. greatest_place (map (λ r. r.last) (found t))) greatest-stands
      (sorted_keys tuple_cmp tuples) (λ t m. sorted-from tuple_cmp t tuples m) (sorted-ascending tuple_cmp tuples_total tuples))

  -- the rows of ascending tuples are those of which one of them is a part of the key
  sum-tuples : (ts : List (List AnyValue)) → IsAscending tuple_cmp ts
      → sum_by (λ r. r.rows) (map (λ t. regrouped_row q t (found t)) ts) ≡ sum_by (λ r. r.rows) (filter (λ r. list_any (λ t. is_eq (tuple_cmp (part r.key) t)) ts) rows)
  sum-tuples [] a = sym (sum-none (λ (r : StateRow). r.rows) rows)
  sum-tuples (t ∷ ts) a =
      sum_by-cons (λ (r : StateRow). r.rows) (regrouped_row q t (found t)) (map (λ x. regrouped_row q x (found x)) ts)
      ∙ ap (λ (n : ℕ). sum_by (λ r. r.rows) (found t) + n) (sum-tuples ts a.1)
      ∙ sum-either (λ (r : StateRow). r.rows) (λ r. is_eq (tuple_cmp (part r.key) t)) (λ r. list_any (λ x. is_eq (tuple_cmp (part r.key) x)) ts) rows
      (λ r e. ap (λ (y : List AnyValue). list_any (λ x. is_eq (tuple_cmp y x)) ts) (tuples_tie (part r.key) t ((Equal-is (tuple_cmp (part r.key) t)).0 e)) ∙ none_of t ts a.0)

  -- regrouped rows are of no more rows
  pub regrouped-few : sum_by (λ r. r.rows) (regrouped_rows q part rows) ≤ sum_by (λ r. r.rows) rows
  regrouped-few =
      let ts : List (List AnyValue) = sorted_keys tuple_cmp tuples in
      let same = sum-tuples ts (sorted-ascending tuple_cmp tuples_total tuples) in
      let less = sum-filter-le (λ (r : StateRow). r.rows) (λ r. list_any (λ t. is_eq (tuple_cmp (part r.key) t)) ts) rows in
      omega arith

-- ---- merged states

-- fair states that follow on, of fewer than 2^32 rows, are a fair state
pub merged-fair : (q : QueryTree) (states : List StateSeen) → All IsFair states → FollowOn states → total_rows states < 2 ^ 32 → IsFair (merged_states q states)
merged-fair q states h f few =
    let rows : List StateRow = rows_of_states states in
    let whole : List AnyValue → List AnyValue = λ key. key in
    let ordered : All Ordered states = All-weaker IsFair Ordered (λ s i. i.range) states h in
    let apart = follow-apart states ordered f in
    let total = rows-total states in
    let less = regrouped-few q whole rows in
    record {
      range = range-follows states ordered f;
      end = end-bound (2 ^ 32) states (omega arith) (All-weaker IsFair (λ s. s.end < 2 ^ 32) (λ s i. i.end) states h);
      rows = regrouped_rows-fair q whole rows (first_of states) (end_of states) (rows-in_range states h ordered f);
      ascending = regrouped-ascends q whole rows;
      firsts = regrouped-firsts q whole rows (states-distinct (λ r. r.first) (λ a b r i. i.first_place.chunk) (λ s i. i.firsts) states h apart);
      lasts = regrouped-lasts q whole rows (states-distinct (λ r. r.last) (λ a b r i. i.last_place.chunk) (λ s i. i.lasts) states h apart);
      few = omega arith;
    }
