-- The state of rows is fair.
use Rattle.std.proofs.Common.{◌≡◌, ◌∙◌, ℕ, ◌+◌, ◌<◌, ◌≤◌, ◌^◌, Bool, true, false, ◌&&◌, List, [], ◌∷◌, length, map, All, Some, inl, inr, refl, sym, ap, subst, arith}
use Rattle.std.specs.List.{count_by, IsDistinct, list_any, sum_by}
use Rattle.std.specs.Cmp.{Equal-is}
use Rattle.std.specs.Ordering.{eq_by_cmp, is_eq, is_gt}
use Rattle.std.proofs.lemmas.List.{length-append}
use Rattle.std.proofs.lemmas.List.Elements.{All-cons, All-contains, All-head, All-nil, All-tail}
use Rattle.std.proofs.lemmas.List.Sums.{count_by-le-length, sum_by-cons}
use mathlib.Core.List.{map-map}
use Rattle.pipe_columns.specs.declared.any_value.AnyValue.{AnyValue}
use Rattle.pipe_columns.specs.declared.place.Place.{Place}
use Rattle.pipe_columns.specs.Groups.{IsAscending}
use Rattle.pipe_columns.specs.Place.{earlier, first_entry, last_entry, later, place_cmp}
use Rattle.pipe_columns.specs.Row.{Row}
use Rattle.pipe_columns.proofs.AscendingFacts.{sorted-ascending, sorted-from}
use Rattle.pipe_columns.proofs.ElementFacts.{Has, has-from_Contains}
use Rattle.pipe_columns.proofs.ValueOrder.{tuples_tie, tuples_total}
use Rattle.pipe_model.specs.Answer.{rows_at, tuple_cmp}
use Rattle.pipe_model.specs.Least.{by_place}
use Rattle.pipe_model.specs.Query.{QueryTree}
use Rattle.pipe_model.specs.Rows.{keys_of}
use Rattle.pipe_model.proofs.CountFacts.{count-cons}
use Rattle.pipe_model.proofs.KeyFacts.{has_entry}
use Rattle.pipe_model.proofs.PlaceFacts.{first-holds, last-holds}
use Rattle.pipe_states.specs.Fair.{CanSave, IsFair, IsFairRow, IsPlaceIn}
use Rattle.pipe_states.specs.Parts.{Part, saved}
use Rattle.pipe_states.specs.Ranges.{IsWithin}
use Rattle.pipe_states.specs.States.{place_of, state_row, state_rows, tuples_of}
use Rattle.pipe_states.specs.declared.state_row.StateRow.{StateRow}
use Rattle.pipe_states.proofs.PlaceChoice.{distinct_places, IsOf}
use Rattle.pipe_states.proofs.SplitFacts.{count-keys}
use Rattle.pipe_states.proofs.SummaryFacts.{Entries, row_of_entries}
use Rattle.pipe_states.proofs.ValueFacts.{joined}

-- ---- the entries of a key

-- what holds of what stands at rows holds of the entries of a key
pub entries_hold : (P : Place × List AnyValue → Type 0) (rs : List Row) (k : List AnyValue) → All (λ r. P (r.place, r.inputs)) rs → All P (rows_at rs k)
entries_hold P [] k h = All-nil P
entries_hold P (r ∷ rs) k h = by (is_eq (tuple_cmp r.key k)) refl (entries_hold P rs k (All-tail (λ (s : Row). P (s.place, s.inputs)) r rs h)) where
  by : (t : Bool) → is_eq (tuple_cmp r.key k) ≡ t → All P (rows_at rs k) → All P (rows_at (r ∷ rs) k)
  by true f rest = rw f (All-cons P (r.place, r.inputs) (rows_at rs k) (All-head (λ (s : Row). P (s.place, s.inputs)) r rs h) rest)
  by false f rest = rw f rest

-- a place is that of a row of a key
abbrev pub IsOfRow : List Row → List AnyValue → Place → Type 0
IsOfRow rs k p = IsOf (λ (r : Row). r.place) (λ (r : Row). r.key) rs k p

-- an entry of a key is that of a row
pub row-of-entry : (rs : List Row) (k : List AnyValue) (e : Place × List AnyValue) → Has e (rows_at rs k) → IsOfRow rs k e.0
row-of-entry [] k e m = absurd m
row-of-entry (r ∷ rs) k e m = by (is_eq (tuple_cmp r.key k)) refl m (row-of-entry rs k e) where
  more : IsOfRow rs k e.0 → IsOfRow (r ∷ rs) k e.0
  more x = record { element = x.element; within = inr x.within; key_is = x.key_is; place_is = x.place_is }

  by : (t : Bool) → is_eq (tuple_cmp r.key k) ≡ t → Has e (rows_at (r ∷ rs) k) → (Has e (rows_at rs k) → IsOfRow rs k e.0) → IsOfRow (r ∷ rs) k e.0
  by true f n next = split (rw f at n) where
    split : Has e ((r.place, r.inputs) ∷ rows_at rs k) → IsOfRow (r ∷ rs) k e.0
    split (inl s) = record { element = r; within = inl refl; key_is = tuples_tie r.key k ((Equal-is (tuple_cmp r.key k)).0 f); place_is = ap (λ (x : Place × List AnyValue). x.0) (sym s) }
    split (inr i) = more (next i)
  by false f n next = more (next (rw f at n))

-- ---- the places of state rows

-- the first entry is one of the entries
pub first-has : (es : Entries) (e : Place × List AnyValue) → first_entry es ≡ Some e → (f : Place × List AnyValue) × Has f es × (f.0 ≡ place_of (first_entry es))
first-has [] e g = cc
first-has (x ∷ xs) e g = let h = first-holds (x ∷ xs) in (_, has-from_Contains (x ∷ xs) _ h.within, refl)

-- and so is the last
pub last-has : (es : Entries) (e : Place × List AnyValue) → first_entry es ≡ Some e → (f : Place × List AnyValue) × Has f es × (f.0 ≡ place_of (last_entry es))
last-has [] e g = cc
last-has (x ∷ xs) e g = let h = last-holds (x ∷ xs) in (_, has-from_Contains (x ∷ xs) _ h.within, refl)

-- the least place of a key is that of one of its rows
pub first-stands : (rs : List Row) (k : List AnyValue) → Has k (keys_of rs) → IsOfRow rs k (place_of (first_entry (rows_at rs k)))
first-stands rs k m =
    let some = has_entry rs k m in
    let found = first-has (rows_at rs k) some.0 some.1 in
    subst (IsOfRow rs k) found.2 (row-of-entry rs k found.0 found.1)

-- and so is the greatest
pub last-stands : (rs : List Row) (k : List AnyValue) → Has k (keys_of rs) → IsOfRow rs k (place_of (last_entry (rows_at rs k)))
last-stands rs k m =
    let some = has_entry rs k m in
    let found = last-has (rows_at rs k) some.0 some.1 in
    subst (IsOfRow rs k) found.2 (row-of-entry rs k found.0 found.1)

-- ---- state rows

-- what entries come to is fair
pub fair_row : (first end : ℕ) (q : QueryTree) (k : List AnyValue) (es : Entries) (e : Place × List AnyValue) → first_entry es ≡ Some e → All (λ x. IsPlaceIn first end x.0) es → IsFairRow first end (row_of_entries q k es)
fair_row first end q k [] e f h = cc
fair_row first end q k (x ∷ xs) e f h =
    let least = first-holds (x ∷ xs) in
    let greatest = last-holds (x ∷ xs) in
    record {
      first_place = All-contains (λ (y : Place × List AnyValue). IsPlaceIn first end y.0) (x ∷ xs) (earlier x (first_entry xs)) h least.within;
      last_place = All-contains (λ (y : Place × List AnyValue). IsPlaceIn first end y.0) (x ∷ xs) (later x (last_entry xs)) h greatest.within;
      in_order = All-contains (λ y. is_gt (by_place (earlier x (first_entry xs)) y) ≡ false) (x ∷ xs) (later x (last_entry xs)) least.bound greatest.within;
      some = omega arith;
    }

-- so are state rows of keys
pub fair_rows : (first end : ℕ) (q : QueryTree) (rs : List Row) (ks : List (List AnyValue)) → All (λ r. IsPlaceIn first end r.place) rs → ((k : List AnyValue) → Has k ks → Has k (keys_of rs))
    → All (IsFairRow first end) (map (state_row q rs) ks)
fair_rows first end q rs [] p h = All-nil (IsFairRow first end)
fair_rows first end q rs (k ∷ ks) p h =
    let some = has_entry rs k (h k (inl refl)) in
    All-cons (IsFairRow first end) (state_row q rs k) (map (state_row q rs) ks) (fair_row first end q k (rows_at rs k) some.0 some.1 (entries_hold (λ (e : Place × List AnyValue). IsPlaceIn first end e.0) rs k p))
    (fair_rows first end q rs ks p (λ x m. h x (inr m)))

-- their rows are as many as the lists of their entries have
pub rows_joined : (q : QueryTree) (rs : List Row) (ks : List (List AnyValue)) → sum_by (λ r. r.rows) (map (state_row q rs) ks) ≡ length (joined (map (rows_at rs) ks))
rows_joined q rs [] = refl
rows_joined q rs (k ∷ ks) =
    sum_by-cons (λ (r : StateRow). r.rows) (state_row q rs k) (map (state_row q rs) ks)
    ∙ ap (λ (n : ℕ). length (rows_at rs k) + n) (rows_joined q rs ks)
    ∙ sym (length-append (rows_at rs k) (joined (map (rows_at rs) ks)))

-- each entry passes a test that all pass
pub count-all : {X : Type 0} (xs : List X) → count_by (λ x. true) xs ≡ length xs
count-all [] = refl
count-all (x ∷ xs) = let one = count-cons (λ y. true) x xs in let rest = count-all xs in omega arith

-- so they are no more than the rows
pub rows-few : (q : QueryTree) (rs : List Row) → sum_by (λ r. r.rows) (state_rows q rs) ≤ length rs
rows-few q rs =
    let ks : List (List AnyValue) = tuples_of rs in
    let whole = rows_joined q rs ks in
    let all = count-all (joined (map (rows_at rs) ks)) in
    let some = count-keys ks (λ e. true) rs (sorted-ascending tuple_cmp tuples_total (keys_of rs)) in
    let few = count_by-le-length (λ (r : Row). list_any (λ k. is_eq (tuple_cmp r.key k)) ks && true) rs in
    omega arith

-- places in a range that a program can hold
pub places-in : (first end : ℕ) (rs : List Row) → All (λ r. IsWithin first end r.place) rs → All (λ r. r.place.row < 2 ^ 32) rs → All (λ r. IsPlaceIn first end r.place) rs
places-in first end [] h j = All-nil (λ (r : Row). IsPlaceIn first end r.place)
places-in first end (r ∷ rs) h j =
    All-cons (λ (s : Row). IsPlaceIn first end s.place) r rs
    (record { chunk = All-head (λ (s : Row). IsWithin first end s.place) r rs h; row = All-head (λ (s : Row). s.place.row < 2 ^ 32) r rs j })
    (places-in first end rs (All-tail (λ (s : Row). IsWithin first end s.place) r rs h) (All-tail (λ (s : Row). s.place.row < 2 ^ 32) r rs j))

-- the keys of state rows are the tuples
pub keys-of : (q : QueryTree) (rs : List Row) (ks : List (List AnyValue)) → map (λ r. r.key) (map (state_row q rs) ks) ≡ ks
keys-of q rs [] = refl
keys-of q rs (k ∷ ks) = ap (λ (l : List (List AnyValue)). k ∷ l) (keys-of q rs ks)

-- the state of a part that can be saved is fair
pub saved-fair : (q : QueryTree) (p : Part) → CanSave p → IsFair (saved q p)
saved-fair q p c =
    let ks : List (List AnyValue) = tuples_of p.rows in
    let from : (k : List AnyValue) → Has k ks → Has k (keys_of p.rows) = λ k m. sorted-from tuple_cmp k (keys_of p.rows) m in
    let ascending : IsAscending tuple_cmp ks = sorted-ascending tuple_cmp tuples_total (keys_of p.rows) in
    let few = rows-few q p.rows in
    let fewer = c.few in
    record {
      range = c.range;
      end = c.end;
      rows = fair_rows p.first p.end q p.rows ks (places-in p.first p.end p.rows c.in_range.within c.rows) from;
      ascending = subst (IsAscending tuple_cmp) (sym (keys-of q p.rows ks)) ascending;
      firsts = subst (IsDistinct (eq_by_cmp place_cmp)) (sym (map-map (λ (r : StateRow). r.first) (state_row q p.rows) ks))
          (distinct_places (λ (r : Row). r.place) (λ (r : Row). r.key) p.rows c.in_range.distinct (keys_of p.rows) (λ k. place_of (first_entry (rows_at p.rows k))) (first-stands p.rows) ks from ascending);
      lasts = subst (IsDistinct (eq_by_cmp place_cmp)) (sym (map-map (λ (r : StateRow). r.last) (state_row q p.rows) ks))
          (distinct_places (λ (r : Row). r.place) (λ (r : Row). r.key) p.rows c.in_range.distinct (keys_of p.rows) (λ k. place_of (last_entry (rows_at p.rows k))) (last-stands p.rows) ks from ascending);
      few = omega arith;
    }
