-- Values, entries and rows in which every test counts alike are one list in two orders.
use Rattle.std.proofs.Common.{◌≡◌, not, List, ap}
use Rattle.std.specs.declared.cmp.Ordering.{Ordering}
use Rattle.std.specs.declared.cmp.Ordering.TheVariants.{Equal}
use Rattle.std.specs.Cmp.{Equal-is, IsTotalOrder, on_total, then_total, tied_itself}
use Rattle.std.specs.List.Sorted.{IsPermutation}
use Rattle.std.specs.Ordering.{eq_by_cmp, is_eq, on, then_cmp}
use Rattle.pipe_columns.specs.declared.any_value.AnyValue.{AnyValue}
use Rattle.pipe_columns.specs.declared.place.Place.{Place}
use Rattle.pipe_columns.specs.AnyValue.{is_null, value_cmp}
use Rattle.pipe_columns.specs.Place.{place_cmp}
use Rattle.pipe_columns.specs.Row.{Row}
use Rattle.pipe_columns.proofs.ValueOrder.{tuples_tie, tuples_total, value_cmp-IsAntisymmetric, value_cmp_total}
use Rattle.pipe_model.specs.Aggregate.{present}
use Rattle.pipe_model.specs.Answer.{tuple_cmp}
use Rattle.pipe_model.specs.Counts.{CountAlike}
use Rattle.pipe_model.proofs.CountFacts.{alike-permutation, filter-alike, permutation-alike}
use Rattle.pipe_model.proofs.PlaceFacts.{place_tie, place_total, then_both}

-- elements with an order in which only equal ones tie
moved-by : {X : Type 0} (R : X → X → Ordering) → IsTotalOrder R → ((x y : X) → R x y ≡ Equal → x ≡ y) → (xs ys : List X) → CountAlike xs ys → IsPermutation xs ys
moved-by {X = X} R o exact xs ys alike =
    permutation-alike (eq_by_cmp R) (λ x y e. exact x y ((Equal-is (R x y)).0 e)) (λ x. ap is_eq (tied_itself o x)) xs ys alike

-- values
pub values-moved : (vs ws : List AnyValue) → CountAlike vs ws → IsPermutation vs ws
values-moved vs ws alike = moved-by value_cmp value_cmp_total value_cmp-IsAntisymmetric vs ws alike

-- values that are no null
pub present-moved : (vs ws : List AnyValue) → IsPermutation vs ws → IsPermutation (present vs) (present ws)
present-moved vs ws moved = values-moved (present vs) (present ws) (filter-alike (λ v. not (is_null v)) vs ws (alike-permutation vs ws moved))

-- entries: by place, then by what stands there
module _ {V : Type 0} (R : V → V → Ordering) (o : IsTotalOrder R) (exact : (v w : V) → R v w ≡ Equal → v ≡ w) where
  -- the order of entries
  entry_cmp : Place × V → Place × V → Ordering
  entry_cmp = then_cmp (on (λ (e : Place × V). e.0) place_cmp) (on (λ (e : Place × V). e.1) R)

  -- it is total
  entry_total : IsTotalOrder entry_cmp
  unfolding entry_cmp
  entry_total = then_total (on_total (λ (e : Place × V). e.0) place_total) (on_total (λ (e : Place × V). e.1) o)

  -- entries that tie are the same
  entry_tie : (e f : Place × V) → entry_cmp e f ≡ Equal → e ≡ f
  unfolding entry_cmp
  entry_tie e f tie =
      let parts = then_both (place_cmp e.0 f.0) (R e.1 f.1) tie in
      let place = place_tie e.0 f.0 parts.0 in
      let value = exact e.1 f.1 parts.1 in
      λ i. (place i, value i)

  -- so entries that count alike are one list in two orders
  entries-moved-by : (xs ys : List (Place × V)) → CountAlike xs ys → IsPermutation xs ys
  entries-moved-by xs ys alike = moved-by entry_cmp entry_total entry_tie xs ys alike

-- entries of values
pub entries-moved : (xs ys : List (Place × AnyValue)) → CountAlike xs ys → IsPermutation xs ys
entries-moved xs ys alike = entries-moved-by value_cmp value_cmp_total value_cmp-IsAntisymmetric xs ys alike

-- entries of tuples
pub tuples-moved : (xs ys : List (Place × List AnyValue)) → CountAlike xs ys → IsPermutation xs ys
tuples-moved xs ys alike = entries-moved-by tuple_cmp tuples_total tuples_tie xs ys alike

-- rows: by place, then by key, then by inputs
row_cmp : Row → Row → Ordering
row_cmp = then_cmp (on (λ (r : Row). r.place) place_cmp) (then_cmp (on (λ (r : Row). r.key) tuple_cmp) (on (λ (r : Row). r.inputs) tuple_cmp))

-- this order is total
row_total : IsTotalOrder row_cmp
unfolding row_cmp
row_total = then_total (on_total (λ (r : Row). r.place) place_total) (then_total (on_total (λ (r : Row). r.key) tuples_total) (on_total (λ (r : Row). r.inputs) tuples_total))

-- rows that tie are the same
row_tie : (r s : Row) → row_cmp r s ≡ Equal → r ≡ s
unfolding row_cmp
row_tie r s tie =
    let parts = then_both (place_cmp r.place s.place) (then_cmp (on (λ (r : Row). r.key) tuple_cmp) (on (λ (r : Row). r.inputs) tuple_cmp) r s) tie in
    let rest = then_both (tuple_cmp r.key s.key) (tuple_cmp r.inputs s.inputs) parts.1 in
    let place = place_tie r.place s.place parts.0 in
    let key = tuples_tie r.key s.key rest.0 in
    let inputs = tuples_tie r.inputs s.inputs rest.1 in
    λ i. record { place = place i; key = key i; inputs = inputs i }

-- rows
pub rows-moved : (rs others : List Row) → CountAlike rs others → IsPermutation rs others
rows-moved rs others alike = moved-by row_cmp row_total row_tie rs others alike
