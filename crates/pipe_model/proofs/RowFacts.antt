-- The rows of a key, and what an answer makes of them, among rows in which every test counts alike.
use Rattle.std.proofs.Common.{◌≡◌, ℕ, ◌+◌, Bool, true, false, ◌||◌, List, [], ◌∷◌, ◌++◌, map, refl, ap, subst, sym}
use Rattle.std.specs.List.{AllByRecursion, filter, IsDistinct, list_any}
use Rattle.std.specs.List.Sorted.{IsPermutation}
use Rattle.std.specs.Ordering.{eq_by_cmp, is_eq}
use Rattle.std.proofs.lemmas.List.Sorted.{IsPermutation-map}
use Rattle.pipe_columns.specs.declared.any_value.AnyValue.{AnyValue}
use Rattle.pipe_columns.specs.declared.data_type.DataType.{DataType}
use Rattle.pipe_columns.specs.declared.place.Place.{Place}
use Rattle.pipe_columns.specs.declared.schema.Field.{Field}
use Rattle.pipe_columns.specs.Frame.{value_at}
use Rattle.pipe_columns.specs.Place.{DistinctPlaces, place_cmp}
use Rattle.pipe_columns.specs.Row.{Row}
use Rattle.pipe_model.specs.Aggregate.{agg, reads_places}
use Rattle.pipe_model.specs.Answer.{aggs_from, answer_row, Entry, entry_of, inputs_at, rows_at, tuple_cmp}
use Rattle.pipe_model.specs.Counts.{CountAlike}
use Rattle.pipe_model.specs.Kind.{Kind}
use Rattle.pipe_model.specs.Output.{input_type}
use Rattle.pipe_model.specs.Query.{AggTree, QueryTree}
use Rattle.pipe_model.specs.Rows.{HaveDistinctPlaces}
use Rattle.pipe_model.proofs.AggFacts.{agg-moved}
use Rattle.pipe_model.proofs.CountFacts.{filter-alike, map-alike}
use Rattle.pipe_model.proofs.MovedFacts.{tuples-moved}

-- ---- places

-- a place that no row has, no row of a key has
apart-at : (p : Place) (rs : List Row) (k : List AnyValue) → AllByRecursion (λ q. eq_by_cmp place_cmp p q ≡ false) (map (λ r. r.place) rs)
    → AllByRecursion (λ q. eq_by_cmp place_cmp p q ≡ false) (map (λ e. e.0) (rows_at rs k))
apart-at p [] k h = tt
apart-at p (r ∷ rs) k h = by_test (is_eq (tuple_cmp r.key k)) refl (apart-at p rs k h.1) where
  by_test : (t : Bool) → is_eq (tuple_cmp r.key k) ≡ t → AllByRecursion (λ q. eq_by_cmp place_cmp p q ≡ false) (map (λ e. e.0) (rows_at rs k))
      → AllByRecursion (λ q. eq_by_cmp place_cmp p q ≡ false) (map (λ e. e.0) (rows_at (r ∷ rs) k))
  by_test true f rest = rw f (h.0, rest)
  by_test false f rest = rw f rest

-- where no place stands twice among rows, none does among those of a key
pub rows_at-distinct : (rs : List Row) (k : List AnyValue) → HaveDistinctPlaces rs → DistinctPlaces (rows_at rs k)
unfolding IsDistinct
rows_at-distinct [] k d = tt
rows_at-distinct (r ∷ rs) k d = by_test (is_eq (tuple_cmp r.key k)) refl (rows_at-distinct rs k d.1) where
  by_test : (t : Bool) → is_eq (tuple_cmp r.key k) ≡ t → DistinctPlaces (rows_at rs k) → DistinctPlaces (rows_at (r ∷ rs) k)
  by_test true f rest = rw f (apart-at r.place rs k d.0, rest)
  by_test false f rest = rw f rest

-- what an aggregate is fed stands at the same places
same_places : (j : ℕ) (entries : List (Place × List AnyValue)) → map (λ e. e.0) (inputs_at j entries) ≡ map (λ e. e.0) entries
same_places j [] = refl
same_places j (e ∷ es) = ap (λ (ps : List Place). e.0 ∷ ps) (same_places j es)

-- nor among what an aggregate is fed
pub inputs_at-distinct : (j : ℕ) (entries : List (Place × List AnyValue)) → DistinctPlaces entries → DistinctPlaces (inputs_at j entries)
inputs_at-distinct j entries d = subst (IsDistinct (eq_by_cmp place_cmp)) (sym (same_places j entries)) d

-- ---- the rows of a key

-- rows that count alike have the same rows of each key, in some order
pub rows_at-moved : (rs others : List Row) (k : List AnyValue) → CountAlike rs others → IsPermutation (rows_at rs k) (rows_at others k)
rows_at-moved rs others k alike =
    let of_key : Entry → Bool = λ e. is_eq (tuple_cmp e.0 k) in
    let entries = map-alike entry_of rs others alike in
    let kept = filter-alike of_key (map entry_of rs) (map entry_of others) entries in
    tuples-moved (rows_at rs k) (rows_at others k) (map-alike (λ (e : Entry). e.1) (filter of_key (map entry_of rs)) (filter of_key (map entry_of others)) kept)

-- and the same aggregate of each
pub agg-alike : (rs others : List Row) (key : List AnyValue) (j : ℕ) (k : Kind) (t : DataType) → CountAlike rs others
    → (reads_places k ≡ true → HaveDistinctPlaces rs) → agg k t (inputs_at j (rows_at rs key)) ≡ agg k t (inputs_at j (rows_at others key))
agg-alike rs others key j k t alike d =
    agg-moved k t (inputs_at j (rows_at rs key)) (inputs_at j (rows_at others key))
    (IsPermutation-map (λ (e : Place × List AnyValue). (e.0, value_at e.1 j)) (rows_at rs key) (rows_at others key) (rows_at-moved rs others key alike))
    (λ e. inputs_at-distinct j (rows_at rs key) (rows_at-distinct rs key (d e)))

-- ---- the row of a group

-- the first of two tests is enough
pub first_of_any : (a b : Bool) → a ≡ true → a || b ≡ true
first_of_any a b e = ap (λ (x : Bool). x || b) e

-- and so is the second
pub second_of_any : (a b : Bool) → b ≡ true → a || b ≡ true
second_of_any true b e = refl
second_of_any false b e = e

-- rows that count alike have the same aggregates of each key
aggs-alike : (rs others : List Row) (key : List AnyValue) (schema : List Field) (j : ℕ) (aggs : List AggTree) → CountAlike rs others
    → (list_any (λ a. reads_places a.kind) aggs ≡ true → HaveDistinctPlaces rs)
    → aggs_from j schema aggs (rows_at rs key) ≡ aggs_from j schema aggs (rows_at others key)
aggs-alike rs others key schema j [] alike d = refl
aggs-alike rs others key schema j (a ∷ more) alike d =
    let one = agg-alike rs others key j a.kind (input_type schema a.input) alike (λ e. d (first_of_any (reads_places a.kind) (list_any (λ b. reads_places b.kind) more) e)) in
    let rest = aggs-alike rs others key schema (j + 1) more alike (λ e. d (second_of_any (reads_places a.kind) (list_any (λ b. reads_places b.kind) more) e)) in
    λ i. one i ++ rest i

-- rows that count alike have the same row of each group
pub answer_row-alike : (rs others : List Row) (q : QueryTree) (key : List AnyValue) → CountAlike rs others
    → (list_any (λ a. reads_places a.kind) q.aggs ≡ true → HaveDistinctPlaces rs) → answer_row q rs key ≡ answer_row q others key
answer_row-alike rs others q key alike d = ap (λ (values : List AnyValue). key ++ values) (aggs-alike rs others key q.schema 0 q.aggs alike d)
