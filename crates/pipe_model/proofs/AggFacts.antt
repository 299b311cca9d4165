-- An aggregate does not depend on the order of its list.
use Rattle.std.proofs.Common.{◌≡◌, ℕ, ℤ, false, true, List, [], ◌∷◌, length, Some, refl, sym, ap, arith}
use Rattle.std.specs.declared.cmp.Ordering.{Ordering}
use Rattle.std.specs.declared.cmp.Ordering.TheVariants.{Equal}
use Rattle.std.specs.Cmp.{back_total, IsTotalOrder}
use Rattle.std.specs.List.{fold}
use Rattle.std.specs.List.Sorted.{IsPermutation}
use Rattle.std.specs.Ordering.{flip_args}
use Rattle.std.proofs.lemmas.List.Sorted.{IsPermutation-map, IsPermutation-sym, length_permutation}
use Rattle.pipe_columns.specs.declared.any_value.AnyValue.{AnyValue}
use Rattle.pipe_columns.specs.declared.any_value.AnyValue.TheVariants as av
use Rattle.pipe_columns.specs.declared.data_type.DataType.{DataType}
use Rattle.pipe_columns.specs.declared.data_type.DataType.TheVariants as dt
use Rattle.pipe_columns.specs.declared.place.Place.{Place}
use Rattle.pipe_columns.specs.AnyValue.{value_cmp}
use Rattle.pipe_columns.specs.Place.{DistinctPlaces}
use Rattle.pipe_columns.specs.DataType.{sum_type, wrapped}
use Rattle.pipe_columns.proofs.ValueOrder.{value_cmp-IsAntisymmetric, value_cmp_total}
use Rattle.pipe_model.specs.Aggregate.{agg, counted, entry_value, exact_sum, extreme, greater, halves, lesser, present, reads_places, sum_if_any, total, values_in}
use Rattle.pipe_model.specs.Kind.{Kind}
use Rattle.pipe_model.specs.Kind as kind
use Rattle.pipe_model.specs.Least.{IsLeast}
use Rattle.pipe_model.proofs.LeastFacts.{first_on_ties, holds-moved, IsNearer, least-fold, least-one, least-tie, second_on_ties, swapped}
use Rattle.pipe_model.proofs.MovedFacts.{present-moved}
use Rattle.pipe_model.proofs.PlaceFacts.{first-moved, last-moved}
use Rattle.pipe_model.proofs.SumFacts.{exact_sum-moved}

-- ---- sums

-- sums of values of one type are the same where their exact sums are
total-same : (t : DataType) (vs ws : List AnyValue) → exact_sum vs ≡ exact_sum ws → total t vs ≡ total t ws
total-same dt.Boolean vs ws e = ap (λ (z : ℤ). av.Int (wrapped (sum_type dt.Boolean) z)) e
total-same dt.Int8 vs ws e = ap (λ (z : ℤ). av.Int (wrapped (sum_type dt.Int8) z)) e
total-same dt.Int16 vs ws e = ap (λ (z : ℤ). av.Int (wrapped (sum_type dt.Int16) z)) e
total-same dt.Int32 vs ws e = ap (λ (z : ℤ). av.Int (wrapped (sum_type dt.Int32) z)) e
total-same dt.Int64 vs ws e = ap (λ (z : ℤ). av.Int (wrapped (sum_type dt.Int64) z)) e
total-same dt.UInt8 vs ws e = ap (λ (z : ℤ). av.Int (wrapped (sum_type dt.UInt8) z)) e
total-same dt.UInt16 vs ws e = ap (λ (z : ℤ). av.Int (wrapped (sum_type dt.UInt16) z)) e
total-same dt.UInt32 vs ws e = ap (λ (z : ℤ). av.Int (wrapped (sum_type dt.UInt32) z)) e
total-same dt.UInt64 vs ws e = ap (λ (z : ℤ). av.Int (wrapped (sum_type dt.UInt64) z)) e
total-same dt.Int128 vs ws e = ap (λ (z : ℤ). av.Int (wrapped (sum_type dt.Int128) z)) e
total-same dt.Date vs ws e = ap (λ (z : ℤ). av.Int (wrapped (sum_type dt.Date) z)) e
total-same dt.String vs ws e = refl

-- ---- means

-- an empty list has no order with an element
no_element : {X : Type 0} (x : X) (xs : List X) → IsPermutation [] (x ∷ xs) → ⊥
no_element x xs moved = let same = length_permutation [] (x ∷ xs) moved in omega arith

-- the exact sum, if any, of another order
sum_if_any-moved : (vs ws : List AnyValue) → IsPermutation vs ws → sum_if_any vs ≡ sum_if_any ws
sum_if_any-moved [] [] moved = refl
sum_if_any-moved [] (w ∷ ws) moved = absurd (no_element w ws moved)
sum_if_any-moved (v ∷ vs) [] moved = absurd (no_element v vs (IsPermutation-sym (v ∷ vs) [] moved))
sum_if_any-moved (v ∷ vs) (w ∷ ws) moved = ap av.Int (exact_sum-moved (v ∷ vs) (w ∷ ws) moved)

-- both halves of a mean
both : List AnyValue → List AnyValue
both values = sum_if_any values ∷ counted (length values) ∷ []

-- they are the same in another order
both-moved : (vs ws : List AnyValue) → IsPermutation vs ws → both vs ≡ both ws
unfolding both
both-moved vs ws moved = λ i. sum_if_any-moved vs ws moved i ∷ counted (length_permutation ws vs (IsPermutation-sym vs ws moved) i) ∷ []

-- a mean is the same where both halves are
halves-same : (t : DataType) (vs ws : List AnyValue) → both (present vs) ≡ both (present ws) → halves t vs ≡ halves t ws
unfolding both
halves-same dt.Boolean vs ws e = e
halves-same dt.Int8 vs ws e = e
halves-same dt.Int16 vs ws e = e
halves-same dt.Int32 vs ws e = e
halves-same dt.Int64 vs ws e = e
halves-same dt.UInt8 vs ws e = e
halves-same dt.UInt16 vs ws e = e
halves-same dt.UInt32 vs ws e = e
halves-same dt.UInt64 vs ws e = e
halves-same dt.Int128 vs ws e = e
halves-same dt.Date vs ws e = e
halves-same dt.String vs ws e = refl

-- ---- least and greatest

-- the lesser of two values is one of them, and under both
pub lesser_is_nearer : (a b : AnyValue) → IsNearer value_cmp_total (lesser a b) a b
lesser_is_nearer a b = swapped value_cmp_total (lesser a b) b a (second_on_ties value_cmp_total b a)

-- the greater of two values is one of them, and above both
pub greater_is_nearer : (a b : AnyValue) → IsNearer (back_total value_cmp_total) (greater a b) a b
greater_is_nearer a b = first_on_ties (back_total value_cmp_total) a b

-- the least value is one of them than which none is lesser
pub lesser-holds : (v : AnyValue) (vs : List AnyValue) → IsLeast value_cmp (fold lesser v vs) (v ∷ vs)
lesser-holds v vs = least-fold value_cmp_total lesser lesser_is_nearer v (v ∷ []) vs (least-one value_cmp_total v)

-- the greatest value is one of them than which none is greater
pub greater-holds : (v : AnyValue) (vs : List AnyValue) → IsLeast (flip_args value_cmp) (fold greater v vs) (v ∷ vs)
greater-holds v vs = least-fold (back_total value_cmp_total) greater greater_is_nearer v (v ∷ []) vs (least-one (back_total value_cmp_total) v)

module _ (R : AnyValue → AnyValue → Ordering) (o : IsTotalOrder R) (exact : (v w : AnyValue) → R v w ≡ Equal → v ≡ w)
    (choose : AnyValue → AnyValue → AnyValue) (holds : (v : AnyValue) (vs : List AnyValue) → IsLeast R (fold choose v vs) (v ∷ vs)) where
  -- the extreme of another order
  extreme-moved : (vs ws : List AnyValue) → IsPermutation vs ws → extreme choose vs ≡ extreme choose ws
  extreme-moved [] [] moved = refl
  extreme-moved [] (w ∷ ws) moved = absurd (no_element w ws moved)
  extreme-moved (v ∷ vs) [] moved = absurd (no_element v vs (IsPermutation-sym (v ∷ vs) [] moved))
  extreme-moved (v ∷ vs) (w ∷ ws) moved = exact (fold choose v vs) (fold choose w ws)
      (least-tie o (fold choose v vs) (fold choose w ws) (w ∷ ws) (holds-moved R (Some (fold choose v vs)) (v ∷ vs) (w ∷ ws) moved (holds v vs)) (holds w ws))

-- ---- each kind

-- whether a kind looks at places
agg-by_values : (k : Kind) (t : DataType) (xs ys : List (Place × AnyValue)) → reads_places k ≡ false → IsPermutation xs ys → agg k t xs ≡ agg k t ys
agg-by_values k t xs ys e moved = by k e where
  values : IsPermutation (values_in xs) (values_in ys)
  values = IsPermutation-map (λ (e : Place × AnyValue). e.1) xs ys moved

  any : IsPermutation (present (values_in xs)) (present (values_in ys))
  any = present-moved (values_in xs) (values_in ys) values

  by : (k : Kind) → reads_places k ≡ false → agg k t xs ≡ agg k t ys
  by kind.sum e = ap (λ (v : AnyValue). v ∷ []) (total-same t (values_in xs) (values_in ys) (exact_sum-moved (values_in xs) (values_in ys) values))
  by kind.mean e = halves-same t (values_in xs) (values_in ys) (both-moved (present (values_in xs)) (present (values_in ys)) any)
  by kind.min e = ap (λ (v : AnyValue). v ∷ []) (extreme-moved value_cmp value_cmp_total value_cmp-IsAntisymmetric lesser lesser-holds (present (values_in xs)) (present (values_in ys)) any)
  by kind.max e = ap (λ (v : AnyValue). v ∷ []) (extreme-moved (flip_args value_cmp) (back_total value_cmp_total) (λ v w e. sym (value_cmp-IsAntisymmetric w v e)) greater greater-holds (present (values_in xs)) (present (values_in ys)) any)
  by kind.first e = cc
  by kind.last e = cc
  by kind.count e = ap (λ (n : ℕ). counted n ∷ []) (length_permutation (present (values_in ys)) (present (values_in xs)) (IsPermutation-sym (present (values_in xs)) (present (values_in ys)) any))
  by kind.len e = ap (λ (n : ℕ). counted n ∷ []) (length_permutation ys xs (IsPermutation-sym xs ys moved))

-- an aggregate of another order, where no place stands twice if the kind looks at places
pub agg-moved : (k : Kind) (t : DataType) (xs ys : List (Place × AnyValue)) → IsPermutation xs ys → (reads_places k ≡ true → DistinctPlaces xs) → agg k t xs ≡ agg k t ys
agg-moved kind.sum t xs ys moved d = agg-by_values kind.sum t xs ys refl moved
agg-moved kind.mean t xs ys moved d = agg-by_values kind.mean t xs ys refl moved
agg-moved kind.min t xs ys moved d = agg-by_values kind.min t xs ys refl moved
agg-moved kind.max t xs ys moved d = agg-by_values kind.max t xs ys refl moved
agg-moved kind.first t xs ys moved d = ap (λ (v : AnyValue). v ∷ []) (ap entry_value (first-moved xs ys moved (d refl)))
agg-moved kind.last t xs ys moved d = ap (λ (v : AnyValue). v ∷ []) (ap entry_value (last-moved xs ys moved (d refl)))
agg-moved kind.count t xs ys moved d = agg-by_values kind.count t xs ys refl moved
agg-moved kind.len t xs ys moved d = agg-by_values kind.len t xs ys refl moved
