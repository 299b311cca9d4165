-- State rows of a query, regrouped, are state rows of the query with the kept keys.
use Rattle.std.proofs.Common.{ℕ, zero, suc, ◌<◌, ◌^◌, List, [], ◌∷◌, length, map, All, inl, inr, sym, subst, refl, arith}
use Rattle.std.specs.List.{flat_map, slice_get, sum_by}
use Rattle.std.specs.Option.{option_to_list}
use Rattle.std.specs.Ordering.{is_eq}
use Rattle.std.proofs.lemmas.List.{map-append}
use Rattle.std.proofs.lemmas.List.Elements.{All-append, All-cons, All-filter, All-head, All-nil, All-tail, All-weaker}
use Rattle.pipe_columns.specs.declared.any_value.AnyValue.{AnyValue}
use Rattle.pipe_columns.specs.declared.data_type.DataType.{DataType}
use Rattle.pipe_columns.specs.AnyValue.{HasUtf8}
use Rattle.pipe_columns.specs.Frame.{value_at}
use Rattle.pipe_columns.specs.Groups.{sorted_keys}
use Rattle.pipe_columns.proofs.AscendingFacts.{sorted-from}
use Rattle.pipe_columns.proofs.ElementFacts.{all_at, Has}
use Rattle.pipe_model.specs.Answer.{tuple_cmp}
use Rattle.pipe_model.specs.Expr.{Expr}
use Rattle.pipe_model.specs.Output.{key_types}
use Rattle.pipe_model.specs.Query.{QueryTree}
use Rattle.pipe_model.specs.Typing.{known_type}
use Rattle.pipe_spill.specs.KeyTypes.{AreOfTypes, IsTuple}
use Rattle.pipe_states.specs.Fair.{IsRowOf, IsStateOf}
use Rattle.pipe_states.specs.Regrouped.{kept, merged_states, regrouped_aggs, regrouped_row, regrouped_rows, rows_of_states, rows_with, with_keys}
use Rattle.pipe_states.specs.States.{StateSeen}
use Rattle.pipe_states.specs.Together.{total_rows}
use Rattle.pipe_states.specs.declared.state_row.StateRow.{StateRow}
use Rattle.pipe_states.proofs.GivenRows.{all_regrouped-good, AreGood, HasGood, typed-append}
use Rattle.pipe_states.proofs.MergedFair.{sum-filter-le}
use Rattle.pipe_states.proofs.RangeFacts.{rows-total}
use Rattle.pipe_states.proofs.TupleFacts.{image-of}

-- ---- a part of a key

-- the value at a position fits the type there
pub type-at : (q : QueryTree) (keys : List Expr) (values : List AnyValue) (k : ℕ) → AreOfTypes (map (λ e. known_type e q.schema) keys) values → k < length keys
    → AreOfTypes (map (λ e. known_type e q.schema) (option_to_list (slice_get keys k))) (value_at values k ∷ [])
type-at q [] values k h lt = absurd (omega arith)
type-at q (e ∷ keys) [] k h lt = absurd h
type-at q (e ∷ keys) (v ∷ values) zero h lt = (h.0, tt)
type-at q (e ∷ keys) (v ∷ values) (suc k) h lt = type-at q keys values k h.1 (omega (arith, lt))

-- and is in UTF-8
pub utf8-at : (values : List AnyValue) (k : ℕ) → All HasUtf8 values → HasUtf8 (value_at values k)
utf8-at [] k h = tt
utf8-at (v ∷ values) zero h = All-head HasUtf8 v values h
utf8-at (v ∷ values) (suc k) h = utf8-at values k (All-tail HasUtf8 v values h)

-- so a part of a key is a tuple of the kept keys
pub kept-types : (q : QueryTree) (keep : List ℕ) (key : List AnyValue) → AreOfTypes (key_types q) key → All (λ i. i < length q.keys) keep → AreOfTypes (key_types (with_keys q keep)) (kept keep key)
kept-types q [] key h k = tt
kept-types q (i ∷ keep) key h k =
    subst (λ (types : List DataType). AreOfTypes types (kept (i ∷ keep) key))
    (sym (map-append (λ (e : Expr). known_type e q.schema) (option_to_list (slice_get q.keys i)) (flat_map (λ j. option_to_list (slice_get q.keys j)) keep)))
    (typed-append (map (λ e. known_type e q.schema) (option_to_list (slice_get q.keys i))) (key_types (with_keys q keep)) (value_at key i ∷ []) (kept keep key)
    (type-at q q.keys key i h (All-head (λ (j : ℕ). j < length q.keys) i keep k)) (kept-types q keep key h (All-tail (λ (j : ℕ). j < length q.keys) i keep k)))

pub kept-utf8 : (keep : List ℕ) (key : List AnyValue) → All HasUtf8 key → All HasUtf8 (kept keep key)
kept-utf8 [] key h = All-nil HasUtf8
kept-utf8 (i ∷ keep) key h = All-cons HasUtf8 (value_at key i) (kept keep key) (utf8-at key i h) (kept-utf8 keep key h)

pub kept-tuple : (q : QueryTree) (keep : List ℕ) (key : List AnyValue) → IsTuple (key_types q) key → All (λ i. i < length q.keys) keep → IsTuple (key_types (with_keys q keep)) (kept keep key)
kept-tuple q keep key h k = record { of_types = kept-types q keep key h.of_types k; utf8 = kept-utf8 keep key h.utf8 }

-- ---- regrouped rows

-- a state row of a query has good results
pub good-of : (q : QueryTree) (r : StateRow) → IsRowOf q r → HasGood q.schema q.aggs 0 r
good-of q r g = record { front = []; back = r.results; long = refl; results = refl; typed = g.results.of_types; utf8 = g.results.utf8; can = g.given }

module _ (q : QueryTree) (part : List AnyValue → List AnyValue) (rows : List StateRow) (h : All (IsRowOf q) rows) (few : sum_by (λ r. r.rows) rows < 2 ^ 32) where
  -- the results of the rows of a tuple are good
  found-good : (tuple : List AnyValue) → AreGood q.schema q.aggs 0 (sum_by (λ r. r.rows) (rows_with part tuple rows)) (regrouped_aggs 0 q.schema q.aggs (rows_with part tuple rows))
  found-good tuple =
      let less = sum-filter-le (λ (r : StateRow). r.rows) (λ r. is_eq (tuple_cmp (part r.key) tuple)) rows in
      all_regrouped-good q.schema q.aggs 0 (sum_by (λ r. r.rows) (rows_with part tuple rows)) (rows_with part tuple rows) (omega arith) refl
      (All-weaker (IsRowOf q) (HasGood q.schema q.aggs 0) (good-of q) (rows_with part tuple rows) (All-filter (λ (r : StateRow). is_eq (tuple_cmp (part r.key) tuple)) (IsRowOf q) rows h))

  -- what holds of the part of each row's key holds of each tuple
  tuples_have : (P : List AnyValue → Type 0) → ((r : StateRow) → IsRowOf q r → P (part r.key)) → (t : List AnyValue) → Has t (sorted_keys tuple_cmp (map (λ r. part r.key) rows)) → P t
  tuples_have P keys t m =
      let one = image-of (λ (r : StateRow). part r.key) t rows (sorted-from tuple_cmp t (map (λ r. part r.key) rows) m) in
      subst P (sym one.2) (keys one.0 (all_at (IsRowOf q) rows one.0 h one.1))

  -- so each regrouped row is one of a query with the same results, where the tuples are keys of it
  pub each_row : (Q : StateRow → Type 0) → ((t : List AnyValue) → Has t (sorted_keys tuple_cmp (map (λ r. part r.key) rows)) → Q (regrouped_row q t (rows_with part t rows))) → All Q (regrouped_rows q part rows)
  each_row Q f = each (sorted_keys tuple_cmp (map (λ r. part r.key) rows)) f where
    each : (ts : List (List AnyValue)) → ((t : List AnyValue) → Has t ts → Q (regrouped_row q t (rows_with part t rows))) → All Q (map (λ t. regrouped_row q t (rows_with part t rows)) ts)
    each [] g = All-nil Q
    each (t ∷ ts) g = All-cons Q (regrouped_row q t (rows_with part t rows)) (map (λ x. regrouped_row q x (rows_with part x rows)) ts) (g t (inl refl)) (each ts (λ x m. g x (inr m)))

-- state rows of a query, merged, are state rows of it
pub merged-of : (q : QueryTree) (rows : List StateRow) → All (IsRowOf q) rows → sum_by (λ r. r.rows) rows < 2 ^ 32 → All (IsRowOf q) (regrouped_rows q (λ key. key) rows)
merged-of q rows h few =
    each_row q (λ key. key) rows h few (IsRowOf q) (λ t m.
    let good = found-good q (λ key. key) rows h few t in
    record {
      key = tuples_have q (λ key. key) rows h few (IsTuple (key_types q)) (λ r g. g.key) t m;
      results = record { of_types = good.typed; utf8 = good.utf8 };
      given = good.can [] refl;
    })

-- and regrouped they are state rows of the query with the kept keys
pub regrouped-of : (q : QueryTree) (keep : List ℕ) (rows : List StateRow) → All (λ i. i < length q.keys) keep → All (IsRowOf q) rows → sum_by (λ r. r.rows) rows < 2 ^ 32
    → All (IsRowOf (with_keys q keep)) (regrouped_rows q (kept keep) rows)
regrouped-of q keep rows k h few =
    each_row q (kept keep) rows h few (IsRowOf (with_keys q keep)) (λ t m.
    let good = found-good q (kept keep) rows h few t in
    record {
      key = tuples_have q (kept keep) rows h few (IsTuple (key_types (with_keys q keep))) (λ r g. kept-tuple q keep r.key g.key k) t m;
      results = record { of_types = good.typed; utf8 = good.utf8 };
      given = good.can [] refl;
    })

-- ---- states

-- the rows of states of a query are state rows of it
pub rows-of : (q : QueryTree) (states : List StateSeen) → All (IsStateOf q) states → All (IsRowOf q) (rows_of_states states)
rows-of q [] h = All-nil (IsRowOf q)
rows-of q (s ∷ states) h = All-append (IsRowOf q) s.rows (rows_of_states states) (All-head (IsStateOf q) s states h) (rows-of q states (All-tail (IsStateOf q) s states h))

-- states of a query, merged, are one of it
pub merged-state-of : (q : QueryTree) (states : List StateSeen) → All (IsStateOf q) states → total_rows states < 2 ^ 32 → IsStateOf q (merged_states q states)
merged-state-of q states h few = let total = rows-total states in merged-of q (rows_of_states states) (rows-of q states h) (omega arith)

-- and regrouped they have state rows of the query with the kept keys
pub regrouped-states-of : (q : QueryTree) (states : List StateSeen) (keep : List ℕ) → All (λ i. i < length q.keys) keep → All (IsStateOf q) states → total_rows states < 2 ^ 32
    → All (IsRowOf (with_keys q keep)) (regrouped_rows q (kept keep) (rows_of_states states))
regrouped-states-of q states keep k h few = let total = rows-total states in regrouped-of q keep (rows_of_states states) k (rows-of q states h) (omega arith)
