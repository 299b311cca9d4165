-- What entries come to doesn't depend on their order.
use Rattle.std.proofs.Common.{◌≡◌, ◌∙◌, ℕ, ◌+◌, true, List, [], ◌∷◌, ◌++◌, length, map, Option, Some, None, option_map, refl, sym, ap, subst, arith}
use Rattle.std.specs.List.{Contains, IsDistinct, list_any}
use Rattle.std.specs.List.Sorted.{IsPermutation}
use Rattle.std.specs.Ordering.{eq_by_cmp}
use Rattle.std.proofs.lemmas.List.Sorted.{IsPermutation-map, IsPermutation-sym, length_permutation}
use mathlib.Core.List.{map-map}
use Rattle.pipe_columns.specs.declared.any_value.AnyValue.{AnyValue}
use Rattle.pipe_columns.specs.declared.place.Place.{Place}
use Rattle.pipe_columns.specs.declared.schema.Field.{Field}
use Rattle.pipe_columns.specs.Frame.{value_at}
use Rattle.pipe_columns.specs.Place.{DistinctPlaces, first_entry, last_entry, place_cmp}
use Rattle.pipe_columns.specs.Row.{Row}
use Rattle.pipe_model.specs.Aggregate.{reads_places}
use Rattle.pipe_model.specs.Answer.{aggs_from, inputs_at, rows_at}
use Rattle.pipe_model.specs.Least.{from_last, HoldsLeast}
use Rattle.pipe_model.specs.Output.{input_type}
use Rattle.pipe_model.specs.Query.{AggTree, QueryTree}
use Rattle.pipe_model.specs.Rows.{HaveDistinctPlaces}
use Rattle.pipe_model.proofs.AggFacts.{agg-moved}
use Rattle.pipe_model.proofs.LeastFacts.{holds-moved, least-tie}
use Rattle.pipe_model.proofs.MovedFacts.{tuples-moved}
use Rattle.pipe_model.proofs.PlaceFacts.{from_last-total, last-holds, least_place-moved, place_tie}
use Rattle.pipe_model.proofs.RowFacts.{first_of_any, inputs_at-distinct, rows_at-distinct, second_of_any}
use Rattle.pipe_states.specs.Parts.{Part, rows_of_parts, saved}
use Rattle.pipe_states.specs.Regrouped.{regrouped_row, rows_of_states, rows_with}
use Rattle.pipe_states.specs.States.{place_of, state_row}
use Rattle.pipe_states.proofs.SplitFacts.{count-at, gathered, with_part}
use Rattle.pipe_states.proofs.SummaryFacts.{Entries, regrouped-joined, row_of_entries}
use Rattle.pipe_states.proofs.ValueFacts.{joined}

-- ---- places

-- the place of an entry that may be there
place_of-map : (o : Option (Place × List AnyValue)) (p : Option (Place × List AnyValue)) → option_map (λ e. e.0) o ≡ option_map (λ e. e.0) p → place_of o ≡ place_of p
place_of-map None None e = refl
place_of-map None (Some f) e = cc
place_of-map (Some x) None e = cc
place_of-map (Some x) (Some f) e = ap (λ (o : Option Place). place_if o) e where
  place_if : Option Place → Place
  place_if None = x.0
  place_if (Some p) = p

-- nothing is in an empty list
nothing_there : (xs : Entries) (x : Place × List AnyValue) → xs ≡ [] → Contains xs x → ⊥
nothing_there xs x e c = let n : Contains [] x = subst (λ (l : Entries). Contains l x) e c in omega (arith, n.1)

-- two greatest entries have one place
same_greatest : (xs : Entries) (a b : Option (Place × List AnyValue)) → HoldsLeast from_last a xs → HoldsLeast from_last b xs → place_of a ≡ place_of b
same_greatest xs None None h k = refl
same_greatest xs None (Some f) h k = absurd (nothing_there xs f h k.within)
same_greatest xs (Some e) None h k = absurd (nothing_there xs e k h.within)
same_greatest xs (Some e) (Some f) h k = sym (place_tie f.0 e.0 (least-tie from_last-total e f xs h k))

-- the greatest place of entries in another order
greatest-moved : (xs ys : Entries) → IsPermutation xs ys → place_of (last_entry xs) ≡ place_of (last_entry ys)
greatest-moved xs ys moved = same_greatest xs (last_entry xs) (last_entry ys) (last-holds xs) (holds-moved from_last (last_entry ys) ys xs (IsPermutation-sym xs ys moved) (last-holds ys))

-- ---- aggregates

-- aggregates of entries in another order, where no place stands twice if one looks at places
aggs-moved : (schema : List Field) (j : ℕ) (aggs : List AggTree) (xs ys : Entries) → IsPermutation xs ys
    → (list_any (λ a. reads_places a.kind) aggs ≡ true → DistinctPlaces xs) → aggs_from j schema aggs xs ≡ aggs_from j schema aggs ys
aggs-moved schema j [] xs ys moved d = refl
aggs-moved schema j (a ∷ others) xs ys moved d =
    let one = agg-moved a.kind (input_type schema a.input) (inputs_at j xs) (inputs_at j ys) (IsPermutation-map (λ (e : Place × List AnyValue). (e.0, value_at e.1 j)) xs ys moved)
    (λ e. inputs_at-distinct j xs (d (first_of_any (reads_places a.kind) (list_any (λ b. reads_places b.kind) others) e))) in
    let rest = aggs-moved schema (j + 1) others xs ys moved (λ e. d (second_of_any (reads_places a.kind) (list_any (λ b. reads_places b.kind) others) e)) in
    λ i. one i ++ rest i

-- what entries in another order come to
pub entries-moved : (q : QueryTree) (tuple : List AnyValue) (xs ys : Entries) → IsPermutation xs ys
    → (list_any (λ a. reads_places a.kind) q.aggs ≡ true → DistinctPlaces xs) → row_of_entries q tuple xs ≡ row_of_entries q tuple ys
entries-moved q tuple xs ys moved d =
    let first = place_of-map (first_entry xs) (first_entry ys) (least_place-moved xs ys moved) in
    let last = greatest-moved xs ys moved in
    let number : length xs ≡ length ys = length_permutation ys xs (IsPermutation-sym xs ys moved) in
    let results = aggs-moved q.schema 0 q.aggs xs ys moved d in
    λ i. record { key = tuple; first = first i; last = last i; rows = number i; results = results i }

-- ---- the rows of a tuple

-- rows with a part of their keys stand where they stood
places_of-part : (part : List AnyValue → List AnyValue) (rs : List Row) → map (λ r. r.place) (map (with_part part) rs) ≡ map (λ r. r.place) rs
places_of-part part rs = map-map (λ (r : Row). r.place) (with_part part) rs

pub distinct-part : (part : List AnyValue → List AnyValue) (rs : List Row) → HaveDistinctPlaces rs → HaveDistinctPlaces (map (with_part part) rs)
distinct-part part rs d = subst (IsDistinct (eq_by_cmp place_cmp)) (sym (places_of-part part rs)) d

-- the state rows of which a tuple is a part come to what all rows of which it is come to
pub one_tuple : (q : QueryTree) (part : List AnyValue → List AnyValue) (tuple : List AnyValue) (parts : List Part)
    → (list_any (λ a. reads_places a.kind) q.aggs ≡ true → HaveDistinctPlaces (rows_of_parts parts))
    → regrouped_row q tuple (rows_with part tuple (rows_of_states (map (saved q) parts))) ≡ state_row q (map (with_part part) (rows_of_parts parts)) tuple
one_tuple q part tuple parts d =
    let found = gathered q part tuple parts in
    let rs : List Row = map (with_part part) (rows_of_parts parts) in
    regrouped-joined q tuple (rows_with part tuple (rows_of_states (map (saved q) parts))) found.lists found.each
    ∙ sym (entries-moved q tuple (rows_at rs tuple) (joined found.lists)
    (tuples-moved (rows_at rs tuple) (joined found.lists) (λ test. count-at part tuple test (rows_of_parts parts) ∙ sym (found.counts test)))
    (λ e. rows_at-distinct rs tuple (distinct-part part (rows_of_parts parts) (d e))))
