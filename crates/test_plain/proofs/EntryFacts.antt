-- The entries of a key among rows: what holds of the rows holds of them, and no place stands twice.
use Rattle.std.proofs.Common.{◌≡◌, ℕ, ◌<◌, ◌^◌, Bool, true, false, List, [], ◌∷◌, length, map, refl, sym, ap, subst, arith}
use Rattle.std.specs.List.{All, AllByRecursion, filter, IsDistinct}
use Rattle.std.specs.Ordering.{eq_by_cmp, is_eq}
use Rattle.std.proofs.lemmas.List.{length-map}
use Rattle.std.proofs.lemmas.List.Elements.{All-cons, All-head, All-nil, All-tail}
use Rattle.std.proofs.lemmas.List.Sums.{count_by-le-length, length-filter}
use Rattle.pipe_columns.specs.declared.any_value.AnyValue.{AnyValue}
use Rattle.pipe_columns.specs.declared.place.Place.{Place}
use Rattle.pipe_columns.specs.Frame.{value_at}
use Rattle.pipe_columns.specs.Place.{place_cmp, DistinctPlaces}
use Rattle.pipe_columns.specs.Row.{Row}
use Rattle.pipe_model.specs.Answer.{entry_of, rows_at, tuple_cmp}
use Rattle.pipe_columns.specs.Groups.{IsAscending}
use Rattle.pipe_model.proofs.RowPlaces.{distinct-ascending}
use Rattle.pipe_columns.proofs.AscendingFacts.{Below}

-- the places and inputs of rows
abbrev pub Entries : Type 0
Entries = List (Place × List AnyValue)

-- the entries of one aggregate
abbrev pub entries_at : ℕ → Entries → List (Place × AnyValue)
entries_at j entries = map (λ e. (e.0, value_at e.1 j)) entries

-- what holds of each row holds of each entry of a key
pub at-holds : (P : Place × List AnyValue → Type 0) (rs : List Row) (k : List AnyValue) → All (λ r. P (r.place, r.inputs)) rs → All P (rows_at rs k)
at-holds P [] k h = All-nil P
at-holds P (r ∷ rs) k h = by_test (is_eq (tuple_cmp r.key k)) refl (at-holds P rs k (All-tail Q r rs h)) where
  Q : Row → Type 0
  Q x = P (x.place, x.inputs)

  by_test : (t : Bool) → is_eq (tuple_cmp r.key k) ≡ t → All P (rows_at rs k) → All P (rows_at (r ∷ rs) k)
  by_test true f rest = rw f (All-cons P (r.place, r.inputs) (rows_at rs k) (All-head Q r rs h) rest)
  by_test false f rest = rw f rest

-- ---- places

abbrev places_of : Entries → List Place
places_of entries = map (λ e. e.0) entries

below-at : (p : Place) (rs : List Row) (k : List AnyValue) → Below place_cmp p (map (λ r. r.place) rs) → Below place_cmp p (places_of (rows_at rs k))
below-at p [] k b = tt
below-at p (r ∷ rs) k b = by_test (is_eq (tuple_cmp r.key k)) refl (below-at p rs k b.1) where
  by_test : (t : Bool) → is_eq (tuple_cmp r.key k) ≡ t → Below place_cmp p (places_of (rows_at rs k)) → Below place_cmp p (places_of (rows_at (r ∷ rs) k))
  by_test true f rest = rw f (b.0, rest)
  by_test false f rest = rw f rest

-- the places of the rows of a key ascend where those of all rows do
pub at-ascend : (rs : List Row) (k : List AnyValue) → IsAscending place_cmp (map (λ r. r.place) rs) → IsAscending place_cmp (places_of (rows_at rs k))
at-ascend [] k a = tt
at-ascend (r ∷ rs) k a = by_test (is_eq (tuple_cmp r.key k)) refl (at-ascend rs k a.1) where
  by_test : (t : Bool) → is_eq (tuple_cmp r.key k) ≡ t → IsAscending place_cmp (places_of (rows_at rs k)) → IsAscending place_cmp (places_of (rows_at (r ∷ rs) k))
  by_test true f rest = rw f (below-at r.place rs k a.0, rest)
  by_test false f rest = rw f rest

same_places : (j : ℕ) (entries : Entries) → map (λ e. e.0) (entries_at j entries) ≡ places_of entries
same_places j [] = refl
same_places j (e ∷ es) = ap (λ (ps : List Place). e.0 ∷ ps) (same_places j es)

-- so no place stands twice among the entries of an aggregate
pub distinct-at : (j : ℕ) (entries : Entries) → IsAscending place_cmp (places_of entries) → DistinctPlaces (entries_at j entries)
distinct-at j entries a = subst (λ ps. IsDistinct (eq_by_cmp place_cmp) ps) (sym (same_places j entries)) (distinct-ascending (places_of entries) a)

-- a key has no more rows than there are
pub rows_at-few : (rs : List Row) (key : List AnyValue) → length rs < 2 ^ 32 → length (rows_at rs key) < 2 ^ 32
rows_at-few rs key few =
    let of_key : (List AnyValue × (Place × List AnyValue)) → Bool = λ e. is_eq (tuple_cmp e.0 key) in
    omega (arith, few, length-map (filter of_key (map entry_of rs)) (λ (e : List AnyValue × (Place × List AnyValue)). e.1), length-filter of_key (map entry_of rs), count_by-le-length of_key (map entry_of rs), length-map rs entry_of)
